use Rattle.std.proofs.Common.{◌≡◌, length, replicate}
use Rattle.p25_status.proofs.list.BoundedList.filled.Given as goal

abbrev pub invariant-loop-added : goal.invariant-loop-added
invariant-loop-added g l = (l.list ≡ replicate l._added l.item) × (length l.list ≡ l._added)
