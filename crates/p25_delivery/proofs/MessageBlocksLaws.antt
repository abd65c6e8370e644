-- The octets of a message and of its blocks. By the laws of lists, and of numbers in base 256.
use Rattle.std.proofs.{Common.{◌≡◌, ℕ, ◌+◌, ◌*◌, List, length, replicate, arith, length-append}, lemmas.List.{length-replicate}}
use Rattle.p25_crc.specs.Values.{crc32_of}
use Rattle.p25_packet_blocks.specs.Image.{four_octets, checked_octets}
use Rattle.p25_delivery.specs.MessageBlocks.{block_count, pad_count, padded_octets, message_octets}

-- a message, its pad octets and the packet CRC fill the blocks
pub length-padded : (count : ℕ) → count + pad_count count + 4 ≡ 16 * block_count count
length-padded count = omega arith

pub length-padded_octets : (message : List ℕ) → length (padded_octets message) + 4 ≡ 16 * block_count (length message)
length-padded_octets message = omega (arith, length-append message (replicate (pad_count (length message)) 0), length-replicate {A = ℕ} (pad_count (length message)) 0, length-padded (length message))

pub length-message_octets : (message : List ℕ) → length (message_octets message) ≡ 16 * block_count (length message)
unfolding message_octets checked_octets
length-message_octets message =
    omega (arith, length-append (padded_octets message) (four_octets (crc32_of (padded_octets message))), length-padded_octets message)
