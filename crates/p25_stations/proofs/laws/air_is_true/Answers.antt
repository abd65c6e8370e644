use Rattle.p25_stations.proofs.{AirLaws.{true-exactly, air-true, air-within}, FewFlipsLaws.{few-arrive}}
use Rattle.p25_stations.proofs.laws.air_is_true.Goals as goal

pub returns : goal.returns
returns c = record { exactly = true-exactly; heard = air-true; within = air-within c.packet_radius.ensures.sent; few = few-arrive }
