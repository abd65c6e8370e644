use Rattle.std.proofs.Common.{◌≡◌, length}
use Rattle.p25_suite.proofs.tests.soft.hard_of.Given as goal

abbrev pub invariant-loop-i : goal.invariant-loop-i
invariant-loop-i l = length l.octets ≡ 128
