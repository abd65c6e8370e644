-- The octets that the writer took are those of the chunk so far, and there was no flush and no failure.
use Rattle.std.proofs.Common.{length, take, ◌-◌, ◌≤◌}
use Rattle.p25_io.specs.Asked.{Took}
use Rattle.p25_io.proofs.streams.put_whole.Given as goal

abbrev pub invariant-loop-done : goal.invariant-loop-done
invariant-loop-done g l = (l.done ≤ length l.piece) × Took g.W.Write.contents l.initial.writer (take l.done l.piece) 0 0 l.writer

abbrev pub decreases-loop-done : goal.decreases-loop-done
decreases-loop-done g l = length l.piece - l.done
