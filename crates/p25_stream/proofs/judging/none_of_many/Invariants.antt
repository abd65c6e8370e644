use Rattle.std.proofs.Common.{◌+◌, ◌*◌, ◌≤◌}
use Rattle.p25_stream.specs.Items.{sync_place}
use Rattle.p25_stream.proofs.judging.none_of_many.Given as goal

abbrev pub invariant-loop-k : goal.invariant-loop-k
invariant-loop-k l = l.from + 16 * l.k ≤ sync_place l.held
