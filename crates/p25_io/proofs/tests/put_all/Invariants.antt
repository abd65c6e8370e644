-- The chunks so far were appended, and the count is unchanged.
use Rattle.std.proofs.Common.{take, ◌≡◌}
use Rattle.std.specs.Prelude.{flat_map}
use Rattle.p25_io.specs.Octets.{Appended}
use Rattle.p25_io.proofs.tests.put_all.Given as goal

abbrev pub invariant-loop-piece : goal.invariant-loop-piece
invariant-loop-piece g l =
    let written = g.K.Sink.written in
    let faults = g.K.Sink.faults in
    Appended (written l.initial.sink) (flat_map (λ piece. piece.now) (take l.piece-index l.pieces)) (written l.sink) × (faults l.sink ≡ faults l.initial.sink)
