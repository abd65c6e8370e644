use Rattle.p25_delivery.proofs.CarriedLaws.{message-read_back, slots-read_back}
use Rattle.p25_delivery.proofs.laws.messages_read_back.Goals as goal

pub returns : goal.returns
returns c = record { octets = message-read_back; blocks = slots-read_back }
