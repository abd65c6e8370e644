-- The octets held were taken, and the count is unchanged.
use Rattle.std.proofs.Common.{length, take, ◌-◌, ◌≤◌, ◌≡◌}
use Rattle.p25_io.specs.Octets.{Taken}
use Rattle.p25_io.proofs.tests.gather.Given as goal

abbrev pub invariant-loop-held : goal.invariant-loop-held
invariant-loop-held g l =
    let left = g.S.Source.left in
    let faults = g.S.Source.faults in
    (l.held ≤ length l.room) × Taken (left l.initial.source) (take l.held l.room) (left l.source) × (faults l.source ≡ faults l.initial.source)

abbrev pub decreases-loop-held : goal.decreases-loop-held
decreases-loop-held g l = length l.initial.room - l.held
