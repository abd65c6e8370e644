use Rattle.std.proofs.Common.{◌≡◌, false, take}
use Rattle.std.specs.List.{list_any}
use Rattle.p25_soft.specs.Softened.{is_block}
use Rattle.p25_soft.proofs.softening.fails_block.Given as goal

abbrev pub invariant-loop-i : goal.invariant-loop-i
invariant-loop-i l = list_any (is_block l.j) (take l.i l.fields) ≡ false
