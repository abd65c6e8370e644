use Rattle.std.proofs.Common.{◌≡◌, length}
use Rattle.p25_soft.proofs.tests.level_near_a_border.Given as goal

abbrev pub invariant-loop-i : goal.invariant-loop-i
invariant-loop-i g l = length l.levels ≡ 98
