-- The parts of a block, and those of an unconfirmed packet (PDU), which are all that contracts see of them.
use Rattle.std.specs.Prelude.{ℕ, List}
use Rattle.p25_packet_blocks.specs.declared.head.PacketHead.{PacketHead}

-- the serial number and the sixteen octets of a confirmed block
pub record BlockParts : Type 0 where
  pub serial : ℕ
  pub octets : List ℕ

-- the header of an unconfirmed packet, and its octets before the packet CRC
pub record PlainParts : Type 0 where
  pub head : PacketHead
  pub octets : List ℕ
