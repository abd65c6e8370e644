use Rattle.p25_stations.proofs.CleanLaws.{run-facts}
use Rattle.p25_stations.proofs.laws.world_facts.Goals as goal

pub returns : goal.returns
returns c = run-facts
