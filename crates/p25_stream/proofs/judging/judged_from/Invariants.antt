use Rattle.std.proofs.Common.{◌-◌, ◌≤◌}
use Rattle.p25_stream.specs.Items.{sync_place}
use Rattle.p25_stream.proofs.judging.judged_from.Given as goal

abbrev pub invariant-loop-k : goal.invariant-loop-k
invariant-loop-k l = (l.k ≤ sync_place l.held) × (l.k ≤ l.end)

abbrev pub decreases-loop-k : goal.decreases-loop-k
decreases-loop-k l = l.end - l.k
