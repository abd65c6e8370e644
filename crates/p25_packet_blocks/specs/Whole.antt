-- Packets (PDU) without a failing field.
use Rattle.std.specs.Prelude.{◌≢◌, ℕ, ◌<◌, List, length, slice_index_or}
use Rattle.p25_packet_blocks.specs.{declared.head.PacketHead.{PacketHead}, declared.block.Slot.{Slot}, declared.block.Slot.TheVariants.{Bad}}
use Rattle.p25_packet_blocks.specs.{declared.packet.Packet.{Packet}, declared.packet.Packet.TheVariants.{Confirmed, Plain}}

-- the header of a packet
abbrev pub packet_head : Packet → PacketHead
packet_head (Confirmed packet) = packet.head
packet_head (Plain packet) = packet.head

-- no slot is `Bad`
pub record AreGood (slots : List Slot) : Type 0 where
  pub at : (j : ℕ) → j < length slots → slice_index_or slots j Bad ≢ Bad

-- no slot of a packet is `Bad`
unfoldable pub IsWholePacket : Packet → Type 0
IsWholePacket (Confirmed packet) = AreGood packet.slots
IsWholePacket (Plain packet) = Unit {0}
