use Rattle.p25_duplex.proofs.RunLaws.{run-orderly}
use Rattle.p25_duplex.proofs.laws.both_directions_are_orderly.Goals as goal

pub returns : goal.returns
returns c = run-orderly
