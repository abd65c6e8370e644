use Rattle.p25_stations.proofs.{CleanLaws.{run-counted, run-whole}, TriesLaws.{run-sixteen}, FalsePassLaws.{clean-from_none, none-from_clean}}
use Rattle.p25_stations.proofs.laws.runs_are_counted.Goals as goal

pub returns : goal.returns
returns c = record { sessions = run-counted; whole = run-whole; tries = run-sixteen; clean = clean-from_none; none = none-from_clean }
