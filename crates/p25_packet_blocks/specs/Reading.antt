-- The decoding of a data unit (PDU) without status symbols. Each decoding is in steps, so that the deciding value is an argument of the next step.
use Rattle.std.specs.Prelude.{◌≡◌, ℕ, ◌+◌, ◌-◌, ◌*◌, ◌/◌, ◌%◌, ◌≤◌, Bool, List, length, ◌==◌, ◌||◌, take, drop, slice_index, Result, Ok, Err, if◌then◌else◌}
use Rattle.p25_bits.specs.{Bits.{part}, Numbers.{octets_number, each_below, joined_below}}
use Rattle.p25_status.specs.{declared.fields.Field.{Field}, declared.fields.Field.TheVariants.{PacketHeader, Format, PacketCrc}}
use Rattle.p25_trellis.specs.{Nearest.{nearest_distance, half_octets, three_quarter_octets}, Tables.{half_point}}
use Rattle.p25_crc.specs.Values.{crc9_of, crc16_of, crc32_of}
use Rattle.p25_packet_blocks.specs.{declared.head.PacketHead.{PacketHead}, declared.head.ReadHead.{ReadHead}, declared.block.Slot.{Slot}}
use Rattle.p25_packet_blocks.specs.{declared.block.Slot.TheVariants.{Good, Bad}, declared.packet.Packet.{Packet}}
use Rattle.p25_packet_blocks.specs.declared.packet.Packet.TheVariants.{Confirmed, Plain}
use Rattle.p25_packet_blocks.specs.{Heads.{confirmed_format, plain_format, response_format, head_format, head_blocks}, Lengths.{packet_bits}}

-- the bits of the header block of a data unit
abbrev pub header_bits : List Bool → List Bool
header_bits bare = part 112 196 bare

-- the bits of the block at position j after the header block
abbrev pub block_bits : List Bool → ℕ → List Bool
block_bits bare j = part (308 + 196 * j) 196 bare

-- the header of twelve octets, if the last two are the header CRC of the others
unfoldable pub head_from : List ℕ → Result PacketHead Field
head_from octets =
    if octets_number (drop 10 octets) == crc16_of (take 10 octets) then Ok (record { 0 = take 10 octets }) else Err PacketHeader

-- the header of a data unit: that of its header block
unfoldable pub head_reading_of : List Bool → Result PacketHead Field
head_reading_of bare = head_from (half_octets (header_bits bare))

-- a decoded header, and the number of bit errors of its block
unfoldable pub counted_head : ℕ → Result PacketHead Field → Result ReadHead Field
counted_head wrong (Err field) = Err field
counted_head wrong (Ok head) = Ok (record { head = head; wrong = wrong })

-- the decoding of a header block: the header of the nearest block, and the number of bits in which it differs from that block
unfoldable pub read_head_of : List Bool → Result ReadHead Field
read_head_of block = counted_head (nearest_distance 4 half_point block) (head_from (half_octets block))

-- the slot of eighteen octets: seven bits of serial number, nine of CRC-9, and sixteen octets
unfoldable pub slot_from : List ℕ → Slot
slot_from octets =
    let serial = slice_index octets 0 / 2 in
    let check = 256 * (slice_index octets 0 % 2) + slice_index octets 1 in
    if check == crc9_of serial (drop 2 octets) then Good (record { serial = serial; octets = drop 2 octets }) else Bad

-- the slots of n blocks
unfoldable pub slots_read : ℕ → List Bool → List Slot
slots_read n bare = each_below n (λ j. slot_from (three_quarter_octets (block_bits bare j)))

-- the octets of n half-rate blocks, joined
unfoldable pub octets_read : ℕ → List Bool → List ℕ
octets_read n bare = joined_below n (λ j. half_octets (block_bits bare j))

-- packets by their parts
abbrev pub confirmed_by_parts : PacketHead → List Slot → Packet
confirmed_by_parts head slots = Confirmed (record { head = head; slots = slots })

abbrev pub plain_by_parts : PacketHead → List ℕ → Packet
plain_by_parts head octets = Plain (record { head = head; octets = octets })

-- the packet of a header and of the octets of all its blocks, the last four of which are the packet CRC of those before; if there is no block to
-- follow there are no octets and no CRC
unfoldable pub plain_from : PacketHead → List ℕ → Result Packet Field
plain_from head octets =
    let count = 12 * head_blocks head - 4 in
    let agrees = octets_number (drop count octets) == crc32_of (take count octets) in
    if head_blocks head == 0 || agrees then Ok (plain_by_parts head (take count octets)) else Err PacketCrc

-- the packet of an unconfirmed header, and the bits of its data unit
abbrev pub unconfirmed_from : PacketHead → List Bool → Result Packet Field
unconfirmed_from head bare =
    if head_format head == plain_format || head_format head == response_format then plain_from head (octets_read (head_blocks head) bare) else Err Format

-- the packet of a header and the bits of its data unit, by the format
unfoldable pub packet_of_head : PacketHead → List Bool → Result Packet Field
packet_of_head head bare =
    if head_format head == confirmed_format then Ok (confirmed_by_parts head (slots_read (head_blocks head) bare)) else unconfirmed_from head bare

-- the packet of a data unit (PDU): PacketHeader, Format and PacketCrc are tested in this order
unfoldable pub packet_from : Result PacketHead Field → List Bool → Result Packet Field
packet_from (Err field) bare = Err field
packet_from (Ok head) bare = packet_of_head head bare

unfoldable pub packet_reading_of : List Bool → Result Packet Field
packet_reading_of bare = packet_from (head_reading_of bare) bare

-- a data unit with a decoded header has as many bits as the blocks to follow need
unfoldable pub HasItsLength : List Bool → Type 0
HasItsLength bare = (head : PacketHead) → head_reading_of bare ≡ Ok head → packet_bits (head_blocks head) ≤ length bare
