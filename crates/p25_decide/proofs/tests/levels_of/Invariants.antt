use Rattle.std.proofs.Common.{◌≡◌, length}
use Rattle.p25_decide.proofs.tests.levels_of.Given as goal

abbrev pub invariant-loop-i : goal.invariant-loop-i
invariant-loop-i l = length l.levels ≡ 864
