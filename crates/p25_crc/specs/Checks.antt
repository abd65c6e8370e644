-- The three packet checks: inverted remainders of a message, taken as a polynomial over GF(2).
use Rattle.std.specs.Prelude.{◌≡◌, ℕ, ◌+◌, ◌-◌, ◌*◌, ◌^◌, Bool, List, ◌++◌, bit_xor}
use Rattle.p25_bits.specs.{Bits.{bits_of, field_of, octet_bits}, Divisible.{IsRemainder}}

-- a number of `width` bits with all of them inverted
abbrev pub inverted : ℕ → ℕ → ℕ
inverted width number = bit_xor number (2 ^ width - 1)

-- the check of a message, whose first bit is the highest coefficient: the remainder of x^width times the message by the
-- divisor of degree `width`, with all bits inverted
pub record IsCheck (divisor width : ℕ) (message : List Bool) (check : ℕ) : Type 0 where
  pub remainder : ℕ
  pub divided : IsRemainder divisor width (field_of message * 2 ^ width) remainder
  pub inverts : check ≡ inverted width remainder

-- the divisor of a confirmed block: x^9 + x^6 + x^4 + x^3 + 1
abbrev pub block_divisor : ℕ
block_divisor = 2 ^ 9 + 2 ^ 6 + 2 ^ 4 + 2 ^ 3 + 1

-- the divisor of a packet header: x^16 + x^12 + x^5 + 1
abbrev pub header_divisor : ℕ
header_divisor = 2 ^ 16 + 2 ^ 12 + 2 ^ 5 + 1

-- the divisor of a whole packet: x^32 + x^26 + x^23 + x^22 + x^16 + x^12 + x^11 + x^10 + x^8 + x^7 + x^5 + x^4 + x^2 + x + 1
abbrev pub packet_divisor : ℕ
packet_divisor = 2 ^ 32 + 2 ^ 26 + 2 ^ 23 + 2 ^ 22 + 2 ^ 16 + 2 ^ 12 + 2 ^ 11 + 2 ^ 10 + 2 ^ 8 + 2 ^ 7 + 2 ^ 5 + 2 ^ 4 + 2 ^ 2 + 2 ^ 1 + 1

-- the message of a confirmed block's check: the serial number in seven bits, and then the octets
abbrev pub block_message : ℕ → List ℕ → List Bool
block_message serial octets = bits_of 7 serial ++ octet_bits octets

-- the check of a confirmed block, in nine bits
unfoldable pub IsCrc9 : ℕ → List ℕ → ℕ → Type 0
IsCrc9 serial octets check = IsCheck block_divisor 9 (block_message serial octets) check

-- the check of a packet header, in 16 bits
unfoldable pub IsCrc16 : List ℕ → ℕ → Type 0
IsCrc16 octets check = IsCheck header_divisor 16 (octet_bits octets) check

-- the check of a whole packet, in 32 bits
unfoldable pub IsCrc32 : List ℕ → ℕ → Type 0
IsCrc32 octets check = IsCheck packet_divisor 32 (octet_bits octets) check
