-- The newest transmission after a call of a half is sendable, if that of the call is. By the transmission of the call.
use Rattle.std.proofs.Common.{Option, Some, None}
use Rattle.std.specs.Prelude.{IfSome}
use Rattle.p25_packet_blocks.specs.{declared.packet.Packet.{Packet}, Sendable.{IsSendable}}
use Rattle.p25_delivery.specs.Delivery.{newest_after}

pub newest-sendable : (packet newest : Option Packet) → IfSome packet IsSendable → IfSome newest IsSendable → IfSome (newest_after packet newest) IsSendable
unfolding newest_after
newest-sendable (Some packet) newest a b = a
newest-sendable None newest a b = b
