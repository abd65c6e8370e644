-- The words of the three checks: the bits that are transmitted of a message and its check.
use Rattle.std.specs.Prelude.{ℕ, Bool, List, ◌++◌}
use Rattle.p25_bits.specs.Bits.{bits_of, octet_bits}
use Rattle.p25_crc.specs.Values.{crc9_of, crc16_of, crc32_of}

-- a packet header: its octets, and then their check in 16 bits
unfoldable pub header_word : List ℕ → List Bool
header_word octets = octet_bits octets ++ bits_of 16 (crc16_of octets)

-- a confirmed block: its serial number in seven bits, the check in nine bits, and then its octets
unfoldable pub block_word : ℕ → List ℕ → List Bool
block_word serial octets = bits_of 7 serial ++ (bits_of 9 (crc9_of serial octets) ++ octet_bits octets)

-- the data of a whole packet: its octets, and then their check in 32 bits
unfoldable pub packet_word : List ℕ → List Bool
packet_word octets = octet_bits octets ++ bits_of 32 (crc32_of octets)
