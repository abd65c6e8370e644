use Rattle.std.proofs.Common.{◌≡◌, ◌*◌, ◌++◌, length, drop}
use Rattle.p25_status.specs.Woven.{woven}
use Rattle.p25_status.proofs.weaving.weave.Given as goal

abbrev pub invariant-loop-i : goal.invariant-loop-i
invariant-loop-i l = record { list : l.out ++ woven (drop (70 * l.i) l.bare) (drop l.i l.statuses) ≡ woven l.bare l.statuses; len : length l.out ≡ 72 * l.i }
