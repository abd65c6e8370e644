use Rattle.std.proofs.Common.{◌≡◌, drop}
use Rattle.p25_stations.specs.Air.{are_true_slots}
use Rattle.p25_stations.proofs.truth.are_true_slots.Given as goal

abbrev pub invariant-loop-i : goal.invariant-loop-i
invariant-loop-i l = are_true_slots l.sent l.heard ≡ are_true_slots (drop l.i l.sent) (drop l.i l.heard)
