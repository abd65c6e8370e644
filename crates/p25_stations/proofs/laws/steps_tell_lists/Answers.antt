use Rattle.std.proofs.Common.{arith}
use Rattle.p25_stations.specs.WorldState.{first_world}
use Rattle.p25_stations.proofs.StepListsLaws.{run-delivered, run-sent, run-acknowledged}
use Rattle.p25_stations.proofs.laws.steps_tell_lists.Goals as goal

pub returns : goal.returns
returns c = record {
  delivered = λ events. run-delivered events first_world;
  sent = λ events. run-sent events first_world;
  acknowledged = λ events. omega (arith, run-acknowledged events first_world);
}
