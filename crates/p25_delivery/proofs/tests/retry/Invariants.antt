use Rattle.std.proofs.Common.{◌≡◌, length}
use Rattle.p25_delivery.proofs.tests.retry.Given as goal

abbrev pub invariant-loop-i : goal.invariant-loop-i
invariant-loop-i l = length l.flags ≡ l.count
