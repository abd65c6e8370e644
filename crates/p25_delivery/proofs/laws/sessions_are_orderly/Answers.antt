use Rattle.p25_delivery.proofs.DeliveryLaws.{sessions-orderly}
use Rattle.p25_delivery.proofs.laws.sessions_are_orderly.Goals as goal

pub returns : goal.returns
returns c = sessions-orderly
