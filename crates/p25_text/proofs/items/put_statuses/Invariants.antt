use Rattle.std.proofs.Common.{◌≡◌, ◌+◌, ◌++◌, length, take}
use Rattle.p25_text.specs.ItemTexts.{status_digits}
use Rattle.p25_text.proofs.items.put_statuses.Given as goal

abbrev pub invariant-loop-i : goal.invariant-loop-i
invariant-loop-i l = record { text : l.out ≡ l.initial.out ++ status_digits (take l.i l.statuses); len : length l.out ≡ length l.initial.out + l.i }
