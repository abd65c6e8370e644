-- The relation of a decoded packet (PDU) to the received bits: its checks agree, and the first nearest paths carry it.
use Rattle.std.specs.Prelude.{◌≡◌, ℕ, ◌*◌, ◌<◌, Bool, List, slice_index_or}
use Rattle.p25_bits.specs.Bits.{part}
use Rattle.p25_trellis.specs.Nearest.{half_octets, three_quarter_octets}
use Rattle.p25_packet_blocks.specs.{declared.block.Block.{Block}, declared.block.Slot.TheVariants.{Good, Bad}, declared.packet.Packet.{Packet}}
use Rattle.p25_packet_blocks.specs.{declared.packet.Packet.TheVariants.{Confirmed, Plain}, Heads.{head_blocks}, Whole.{packet_head}}
use Rattle.p25_packet_blocks.specs.{Reading.{header_bits, block_bits}, Image.{header_octets, confirmed_octets, checked_octets}}

-- the first nearest path to received bits carries the block at position j: the serial number, the CRC-9 and the octets of the
-- slot's block, or the twelve octets from 12·j of all octets and their packet CRC
unfoldable pub IsBlockRead : Packet → ℕ → List Bool → Type 0
IsBlockRead (Confirmed packet) j bits =
    (block : Block) × (slice_index_or packet.slots j Bad ≡ Good block) × (three_quarter_octets bits ≡ confirmed_octets block)
IsBlockRead (Plain packet) j bits = half_octets bits ≡ part (12 * j) 12 (checked_octets packet.octets)

-- the first nearest paths to the header block and to each block to follow carry the packet, with all its checks
pub record IsPacketRead (packet : Packet) (bare : List Bool) : Type 0 where
  pub header : half_octets (header_bits bare) ≡ header_octets (packet_head packet)
  pub blocks : (j : ℕ) → j < head_blocks (packet_head packet) → IsBlockRead packet j (block_bits bare j)
