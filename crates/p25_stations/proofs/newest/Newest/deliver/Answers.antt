use Rattle.std.proofs.Common.{Option, subst}
use Rattle.std.specs.Prelude.{IfSome}
use Rattle.p25_packet_blocks.specs.{declared.packet.Packet.{Packet}, Sendable.{IsSendable}}
use Rattle.p25_stations.proofs.AirLaws.{sendable-whole}
use Rattle.p25_stations.proofs.newest.Newest.deliver.Goals as goal

pub carry-requires : goal.carry-requires
carry-requires c = sendable-whole c.in-Some.packet (rw c.in-Some.is at c.self.invariant)
