-- A message as the blocks of a confirmed packet (PDU) carry it, and back.
use Rattle.std.specs.Prelude.{ℕ, ◌+◌, ◌-◌, ◌*◌, ◌/◌, ◌&&◌, ◌==◌, nat_le, List, ◌++◌, length, take, drop, replicate, Option, Some, None, if◌then◌else◌}
use Rattle.p25_bits.specs.{Bits.{part}, Numbers.{octets_number, each_below}}
use Rattle.p25_crc.specs.Values.{crc32_of}
use Rattle.p25_packet_blocks.specs.Image.{checked_octets}
pub use Rattle.p25_packet_blocks.specs.Parts.{BlockParts}

-- the number of blocks of 16 octets that carry a number of octets and the four of the packet CRC
abbrev pub block_count : ℕ → ℕ
block_count octets = (octets + 19) / 16

-- the number of octets of 0 between a message of a number of octets and its packet CRC
abbrev pub pad_count : ℕ → ℕ
pad_count octets = 16 * block_count octets - 4 - octets

-- a message and its pad octets
abbrev pub padded_octets : List ℕ → List ℕ
padded_octets message = message ++ replicate (pad_count (length message)) 0

-- all octets that the blocks of a message carry: the message, its pad octets, and the packet CRC over both
unfoldable pub message_octets : List ℕ → List ℕ
message_octets message = checked_octets (padded_octets message)

-- the block with a serial number
unfoldable pub message_block : List ℕ → ℕ → BlockParts
message_block message serial = record { serial = serial; octets = part (16 * serial) 16 (message_octets message) }

-- the blocks of a message, in the order of their serial numbers
unfoldable pub message_blocks : List ℕ → List BlockParts
message_blocks message = each_below (block_count (length message)) (message_block message)

-- the message in all octets of its blocks, without `pad` pad octets and the packet CRC, the last four: none if that is not the CRC of the others, or
-- the others are fewer than `pad`
unfoldable pub unpadded : List ℕ → ℕ → Option (List ℕ)
unpadded octets pad =
    let count = length octets - 4 in
    if nat_le pad count && octets_number (drop count octets) == crc32_of (take count octets) then Some (take (count - pad) octets) else None
