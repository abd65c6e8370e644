use Rattle.std.proofs.Common.{length}
use Rattle.p25_stream.proofs.tests.items_as_they_come.Given as goal

abbrev pub invariant-loop : goal.invariant-loop
invariant-loop g l = Unit {0}

abbrev pub decreases-loop : goal.decreases-loop
decreases-loop g l = length l.scanner.held

abbrev pub invariant-loop-2 : goal.invariant-loop-2
invariant-loop-2 g l = Unit {0}

abbrev pub decreases-loop-2 : goal.decreases-loop-2
decreases-loop-2 g l = length l.scanner.held
