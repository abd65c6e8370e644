use Rattle.p25_duplex.proofs.OrderLaws.{run-whole}
use Rattle.p25_duplex.proofs.laws.duplex_sessions_are_whole.Goals as goal

pub returns : goal.returns
returns c = run-whole
