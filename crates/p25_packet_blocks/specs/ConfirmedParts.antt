-- The parts of a confirmed packet (PDU), which are all that contracts see of it.
use Rattle.std.specs.Prelude.{List}
use Rattle.p25_packet_blocks.specs.{declared.head.PacketHead.{PacketHead}, declared.block.Slot.{Slot}}

-- the header of a confirmed packet, and a slot for each block to follow
pub record ConfirmedParts : Type 0 where
  pub head : PacketHead
  pub slots : List Slot
