use Rattle.p25_stations.proofs.CleanLaws.{run-orderly}
use Rattle.p25_stations.proofs.laws.clean_runs_are_orderly.Goals as goal

pub returns : goal.returns
returns c = run-orderly
