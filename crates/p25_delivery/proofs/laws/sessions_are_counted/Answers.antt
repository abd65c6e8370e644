use Rattle.p25_delivery.proofs.CountLaws.{sessions-counted}
use Rattle.p25_delivery.proofs.laws.sessions_are_counted.Goals as goal

pub returns : goal.returns
returns c = sessions-counted
