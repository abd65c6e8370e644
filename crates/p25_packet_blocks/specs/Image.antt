-- The image of a packet (PDU): the bits of its data unit without status symbols, as one list.
use Rattle.std.specs.Prelude.{ℕ, ◌+◌, ◌-◌, ◌*◌, ◌/◌, ◌%◌, ◌^◌, Bool, false, List, [], ◌∷◌, ◌++◌, replicate, slice_index_or}
use Rattle.p25_bits.specs.{Bits.{part}, Numbers.{joined_below}}
use Rattle.p25_bch_nid.specs.Duids.{duid_pdu}
use Rattle.p25_trellis.specs.Nearest.{half_block, three_quarter_block}
use Rattle.p25_crc.specs.Values.{crc9_of, crc16_of, crc32_of}
use Rattle.p25_unit_front.specs.Front.{unit_front}
use Rattle.p25_packet_blocks.specs.{declared.head.PacketHead.{PacketHead}, declared.block.Block.{Block}, declared.block.Slot.{Slot}}
use Rattle.p25_packet_blocks.specs.{declared.block.Slot.TheVariants.{Good, Bad}, declared.packet.Packet.{Packet}}
use Rattle.p25_packet_blocks.specs.{declared.packet.Packet.TheVariants.{Confirmed, Plain}, Heads.{head_blocks}, Whole.{packet_head}}
use Rattle.p25_packet_blocks.specs.Lengths.{packet_bits, packet_bare_length}

-- the two octets of a number, the first highest
abbrev pub two_octets : ℕ → List ℕ
two_octets number = number / 256 ∷ number % 256 ∷ []

-- the four octets of a number, the first highest
abbrev pub four_octets : ℕ → List ℕ
four_octets number = number / 2 ^ 24 ∷ number / 2 ^ 16 % 256 ∷ number / 2 ^ 8 % 256 ∷ number % 256 ∷ []

-- the octets of the header block: the header and its check
unfoldable pub header_octets : PacketHead → List ℕ
header_octets head = head.0 ++ two_octets (crc16_of head.0)

-- the octets of a confirmed block: seven bits of serial number, nine of CRC-9, and the sixteen octets
unfoldable pub confirmed_octets : Block → List ℕ
confirmed_octets block = two_octets (512 * block.serial + crc9_of block.serial block.octets) ++ block.octets

-- the bits of a slot; a `Bad` slot has none
unfoldable pub slot_bits : Slot → List Bool
slot_bits (Good block) = three_quarter_block (confirmed_octets block)
slot_bits Bad = []

-- octets and their packet CRC
unfoldable pub checked_octets : List ℕ → List ℕ
checked_octets octets = octets ++ four_octets (crc32_of octets)

-- the bits of the block at position j after the header block
unfoldable pub body_block : Packet → ℕ → List Bool
body_block (Confirmed packet) j = slot_bits (slice_index_or packet.slots j Bad)
body_block (Plain packet) j = half_block (part (12 * j) 12 (checked_octets packet.octets))

-- nulls up to the length of a data unit with n blocks to follow
unfoldable pub packet_nulls : ℕ → List Bool
packet_nulls n = replicate (packet_bare_length n - packet_bits n) false

-- the image of a packet (PDU): sync and NID of a data unit of DUID C, the header block, the blocks to follow in order, and nulls
unfoldable pub packet_image_of : ℕ → Packet → List Bool
packet_image_of nac packet =
    let n = head_blocks (packet_head packet) in
    unit_front nac duid_pdu ++ half_block (header_octets (packet_head packet)) ++ joined_below n (body_block packet) ++ packet_nulls n
