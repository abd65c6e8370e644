use Rattle.p25_delivery.proofs.WholeLaws.{run-whole}
use Rattle.p25_delivery.proofs.laws.sessions_are_whole.Goals as goal

pub returns : goal.returns
returns c = run-whole
