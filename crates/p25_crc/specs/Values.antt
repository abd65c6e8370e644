-- The three checks as functions. Each returns a check of the message. A message has only one check, so this property determines the function.
use Rattle.std.specs.Prelude.{ℕ, ◌*◌, ◌^◌, Bool, List, refl}
use Rattle.std.proofs.Common.{lit<, lit≤}
use Rattle.p25_bits.specs.{Bits.{field_of, octet_bits}, Divisible.{HasDegree}}
use Rattle.p25_bits.proofs.DivisibleLaws.{some_remainder}
use Rattle.p25_crc.specs.Checks.{inverted, block_divisor, header_divisor, packet_divisor, block_message, IsCheck, IsCrc9, IsCrc16, IsCrc32}

-- the check of a message by a divisor of degree `width`
pub check_value : (divisor width : ℕ) → HasDegree divisor width → List Bool → ℕ
check_value divisor width degree message = inverted width (some_remainder divisor width (field_of message * 2 ^ width) degree).0

IsCheck-check_value : (divisor width : ℕ) (degree : HasDegree divisor width) (message : List Bool)
    → IsCheck divisor width message (check_value divisor width degree message)
unfolding check_value
IsCheck-check_value divisor width degree message =
    let some = some_remainder divisor width (field_of message * 2 ^ width) degree in
    record { remainder = some.0; divided = some.1; inverts = refl }

-- the degrees of the divisors
pub block_degree : HasDegree block_divisor 9
block_degree = record { highest = lit≤ tt; none_above = lit< tt }

pub header_degree : HasDegree header_divisor 16
header_degree = record { highest = lit≤ tt; none_above = lit< tt }

pub packet_degree : HasDegree packet_divisor 32
packet_degree = record { highest = lit≤ tt; none_above = lit< tt }

-- the check of a confirmed block's serial and octets
pub crc9_of : ℕ → List ℕ → ℕ
crc9_of serial octets = check_value block_divisor 9 block_degree (block_message serial octets)

-- the check of a packet header's octets
pub crc16_of : List ℕ → ℕ
crc16_of octets = check_value header_divisor 16 header_degree (octet_bits octets)

-- the check of a whole packet's octets
pub crc32_of : List ℕ → ℕ
crc32_of octets = check_value packet_divisor 32 packet_degree (octet_bits octets)

-- each is the check
pub IsCrc9-crc9_of : (serial : ℕ) (octets : List ℕ) → IsCrc9 serial octets (crc9_of serial octets)
unfolding IsCrc9 crc9_of
IsCrc9-crc9_of serial octets = IsCheck-check_value block_divisor 9 block_degree (block_message serial octets)

pub IsCrc16-crc16_of : (octets : List ℕ) → IsCrc16 octets (crc16_of octets)
unfolding IsCrc16 crc16_of
IsCrc16-crc16_of octets = IsCheck-check_value header_divisor 16 header_degree (octet_bits octets)

pub IsCrc32-crc32_of : (octets : List ℕ) → IsCrc32 octets (crc32_of octets)
unfolding IsCrc32 crc32_of
IsCrc32-crc32_of octets = IsCheck-check_value packet_divisor 32 packet_degree (octet_bits octets)
