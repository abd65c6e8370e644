-- Laws of the packet checks: a message has only one check, because it has one remainder, and a check has no more bits than its width.
use Rattle.std.proofs.{Common.{subst, ◌≡◌, ℕ, ◌-◌, ◌*◌, ◌%◌, ◌^◌, ◌<◌, ◌≤◌, Bool, List, ap, sym, ◌∙◌, arith, lit<}, Math.Nat.{mod-eq_of_lt, lt_of_le_of_lt}, Math.Pow.{pow_mono}}
use Rattle.std.proofs.lemmas.Nat.{xor_lt, pow_pos}
use Rattle.p25_bits.specs.{Bits.{octet_bits}, Divisible.{HasDegree}}
use Rattle.p25_bits.proofs.DivisibleLaws.{IsRemainder-unique}
use Rattle.p25_crc.specs.Checks.{inverted, block_divisor, header_divisor, packet_divisor, block_message, IsCheck, IsCrc9, IsCrc16, IsCrc32}
use Rattle.p25_crc.specs.Values.{block_degree, header_degree, packet_degree, crc9_of, crc16_of, crc32_of, IsCrc9-crc9_of, IsCrc16-crc16_of, IsCrc32-crc32_of}

-- the number of `width` ones, as a 64-bit word computes it
pub ones : (width : ℕ) → width ≤ 32 → 1 * 2 ^ width % 2 ^ 64 - 1 ≡ 2 ^ width - 1
ones width fits =
    let once : 1 * 2 ^ width ≡ 2 ^ width = omega arith in
    let below : 2 ^ width < 2 ^ 64 = lt_of_le_of_lt (pow_mono fits) (lit< tt) in
    ap (λ n. n % 2 ^ 64 - 1) once ∙ ap (λ n. n - 1) (mod-eq_of_lt below)

-- an inverted number has no more bits
pub inverted-lt : (width number : ℕ) → number < 2 ^ width → inverted width number < 2 ^ width
inverted-lt width number below = xor_lt width number (2 ^ width - 1) below (let some = pow_pos width in omega arith)

-- there is one check of a message
pub IsCheck-unique : (divisor width : ℕ) (message : List Bool) (a b : ℕ) → HasDegree divisor width → IsCheck divisor width message a → IsCheck divisor width message b → a ≡ b
IsCheck-unique divisor width message a b g first second =
    first.inverts ∙ ap (inverted width) (IsRemainder-unique divisor width _ first.remainder second.remainder g first.divided second.divided) ∙ sym second.inverts

pub IsCrc9-unique : (serial : ℕ) (octets : List ℕ) (a b : ℕ) → IsCrc9 serial octets a → IsCrc9 serial octets b → a ≡ b
unfolding IsCrc9
IsCrc9-unique serial octets a b = IsCheck-unique block_divisor 9 (block_message serial octets) a b block_degree

pub IsCrc16-unique : (octets : List ℕ) (a b : ℕ) → IsCrc16 octets a → IsCrc16 octets b → a ≡ b
unfolding IsCrc16
IsCrc16-unique octets a b = IsCheck-unique header_divisor 16 (octet_bits octets) a b header_degree

pub IsCrc32-unique : (octets : List ℕ) (a b : ℕ) → IsCrc32 octets a → IsCrc32 octets b → a ≡ b
unfolding IsCrc32
IsCrc32-unique octets a b = IsCheck-unique packet_divisor 32 (octet_bits octets) a b packet_degree

-- a check is below the power of two of its width
pub IsCheck-lt : (divisor width : ℕ) (message : List Bool) (check : ℕ) → IsCheck divisor width message check → check < 2 ^ width
IsCheck-lt divisor width message check is = subst (λ (n : ℕ). n < 2 ^ width) (sym is.inverts) (inverted-lt width is.remainder is.divided.lower)

pub crc9_of-lt : (serial : ℕ) (octets : List ℕ) → crc9_of serial octets < 2 ^ 9
crc9_of-lt serial octets = IsCheck-lt block_divisor 9 (block_message serial octets) (crc9_of serial octets) (unfold IsCrc9 in IsCrc9-crc9_of serial octets)

pub crc16_of-lt : (octets : List ℕ) → crc16_of octets < 2 ^ 16
crc16_of-lt octets = IsCheck-lt header_divisor 16 (octet_bits octets) (crc16_of octets) (unfold IsCrc16 in IsCrc16-crc16_of octets)

pub crc32_of-lt : (octets : List ℕ) → crc32_of octets < 2 ^ 32
crc32_of-lt octets = IsCheck-lt packet_divisor 32 (octet_bits octets) (crc32_of octets) (unfold IsCrc32 in IsCrc32-crc32_of octets)
