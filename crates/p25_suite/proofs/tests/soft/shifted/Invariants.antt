use Rattle.std.proofs.Common.{◌≡◌, length}
use Rattle.p25_suite.proofs.tests.soft.shifted.Given as goal

abbrev pub invariant-loop-place : goal.invariant-loop-place
invariant-loop-place l = length l.out ≡ 128
