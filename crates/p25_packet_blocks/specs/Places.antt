-- The image of a packet (PDU) by its positions, as in the standard.
use Rattle.std.specs.Prelude.{◌≡◌, ℕ, ◌*◌, ◌<◌, ◌≤◌, Bool, false, List, length, take, slice_get, slice_index_or, Some}
use Rattle.p25_bits.specs.Bits.{part}
use Rattle.p25_bch_nid.specs.Duids.{duid_pdu}
use Rattle.p25_trellis.specs.{Trellis.{IsBlock}, Tables.{half_point, three_quarter_point}}
use Rattle.p25_unit_front.specs.Front.{IsFront}
use Rattle.p25_packet_blocks.specs.{declared.block.Block.{Block}, declared.block.Slot.TheVariants.{Good, Bad}, declared.packet.Packet.{Packet}}
use Rattle.p25_packet_blocks.specs.{declared.packet.Packet.TheVariants.{Confirmed, Plain}, Heads.{head_blocks}, Whole.{packet_head}}
use Rattle.p25_packet_blocks.specs.{Lengths.{packet_bits, packet_bare_length}, Reading.{header_bits, block_bits}}
use Rattle.p25_packet_blocks.specs.Image.{header_octets, confirmed_octets, checked_octets}

-- bits are those of the block at position j: at three-quarter rate the serial number, the CRC-9 and the octets of the slot's
-- block; at half rate the twelve octets from position 12·j of all octets and their packet CRC
unfoldable pub IsBodyBlock : Packet → ℕ → List Bool → Type 0
IsBodyBlock (Confirmed packet) j bits =
    (block : Block) × (slice_index_or packet.slots j Bad ≡ Good block) × IsBlock 8 3 three_quarter_point (confirmed_octets block) bits
IsBodyBlock (Plain packet) j bits = IsBlock 4 2 half_point (part (12 * j) 12 (checked_octets packet.octets)) bits

-- bits are the image of a packet (PDU): bits 0 to 111 are sync and NID of DUID C, the 196 bits from 112 the header block at half rate, the 196 bits
-- from 308 + 196·j block j, and every other bit is 0
pub record IsPacketImage (nac : ℕ) (packet : Packet) (bits : List Bool) : Type 0 where
  pub long : length bits ≡ packet_bare_length (head_blocks (packet_head packet))
  pub front : IsFront nac duid_pdu (take 112 bits)
  pub header : IsBlock 4 2 half_point (header_octets (packet_head packet)) (header_bits bits)
  pub blocks : (j : ℕ) → j < head_blocks (packet_head packet) → IsBodyBlock packet j (block_bits bits j)
  pub nulls : (place : ℕ) → packet_bits (head_blocks (packet_head packet)) ≤ place → place < length bits → slice_get bits place ≡ Some false
