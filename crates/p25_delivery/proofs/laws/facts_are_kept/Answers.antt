use Rattle.p25_delivery.proofs.DeliveryLaws.{facts-kept, first-is}
use Rattle.p25_delivery.proofs.laws.facts_are_kept.Goals as goal

pub returns : goal.returns
returns c = record { facts = facts-kept; first = first-is }
