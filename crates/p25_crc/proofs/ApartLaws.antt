-- The least distances of the words of the checks. Two messages of one length with their checks differ by a multiple of the divisor, so
-- in as many bits as that has coefficients other than 0. That some two words differ in no more is shown by words of one length, of which one is 0.
use Rattle.std.proofs.Common.{◌≡◌, ℕ, ◌+◌, ◌-◌, ◌*◌, ◌^◌, ◌<◌, ◌≤◌, inl, inr, Bool, List, [], ◌∷◌, ◌++◌, length, replicate, bit_xor, refl, ap, ap₂, sym, ◌∙◌, subst, arith, lit<, length-append}
use Rattle.std.proofs.{Math.Pow.{pow_mono}, Math.Nat.{lt_of_lt_of_le}, lemmas.Bool.{cases_lt}, lemmas.Nat.{xor_lt, pow_pos, pow-add}}
use Rattle.std.specs.{Int.RustNames.{count_ones}, Int.Bits.{xor_self, xor_zero_r}}
use Rattle.p25_bits.specs.{Bits.{bits_of, field_after, field_of, octet_bits}, Distance.{distance_by, distance_of}, Divisible.{IsDivisible, IsRemainder, HasDegree}}
use Rattle.p25_bits.proofs.{BitsLaws.{field_of-lt, length-bits_of, length-octet_bits, same_from_field_of}, DistanceLaws.{distance_of-same, distance_by-append, ones-xor, same_from_distance_of}}
use Rattle.p25_bits.proofs.DivisibleLaws.{xor_apart, xor_middle, same_from_xor, IsDivisible-sum, IsRemainder-lower}
use Rattle.p25_bits.proofs.DivisionLaws.{times_x, times_power, IsRemainder-sum, IsRemainder-times_power}
use Rattle.std.specs.Bool.{beq}
use Rattle.p25_crc.specs.Checks.{block_divisor, header_divisor, packet_divisor, block_message, inverted, IsCheck, IsCrc9, IsCrc16, IsCrc32}
use Rattle.p25_crc.specs.Values.{block_degree, header_degree, packet_degree, crc9_of, crc16_of, crc32_of, IsCrc9-crc9_of, IsCrc16-crc16_of, IsCrc32-crc32_of}
use Rattle.p25_crc.specs.Words.{header_word, block_word, packet_word}
use Rattle.p25_crc.proofs.{RegisterLaws.{field_of-bits}, ChecksLaws.{IsCheck-lt, IsCrc9-unique, IsCrc16-unique, IsCrc32-unique}}
use Rattle.p25_crc.proofs.ApartSteps.{header_none, header_no_two, block_none, packet_none, packet_no_two, three_at_least, four_at_least}

-- two numbers that are inverted have the sum that they had
sum_inverted : (r s ones : ℕ) → bit_xor (bit_xor r ones) (bit_xor s ones) ≡ bit_xor r s
sum_inverted r s ones = xor_middle r ones s ones ∙ ap (bit_xor (bit_xor r s)) (xor_self ones) ∙ xor_zero_r (bit_xor r s)

module _ (divisor width : ℕ) (a b : List Bool) (c d : ℕ) (first : IsCheck divisor width a c) (second : IsCheck divisor width b d) where
  -- the sum of two messages with their checks is a multiple of the divisor
  sum_divides : IsDivisible divisor (bit_xor (field_of (a ++ bits_of width c)) (field_of (b ++ bits_of width d)))
  sum_divides =
      let low = IsCheck-lt divisor width a c first in
      let low' = IsCheck-lt divisor width b d second in
      let m = field_of a * 2 ^ width in
      let n = field_of b * 2 ^ width in
      let r = first.remainder in
      let s = second.remainder in
      let left : field_of (a ++ bits_of width c) ≡ bit_xor m c = field_of-bits a width c low ∙ sym (xor_apart (field_of a) width c low) in
      let right : field_of (b ++ bits_of width d) ≡ bit_xor n d = field_of-bits b width d low' ∙ sym (xor_apart (field_of b) width d low') in
      let checks : bit_xor c d ≡ bit_xor r s = ap₂ bit_xor first.inverts second.inverts ∙ sum_inverted r s (2 ^ width - 1) in
      let whole : bit_xor (bit_xor m r) (bit_xor n s) ≡ bit_xor (field_of (a ++ bits_of width c)) (field_of (b ++ bits_of width d))
      = xor_middle m r n s ∙ ap (bit_xor (bit_xor m n)) (sym checks) ∙ xor_middle m n c d ∙ sym (ap₂ bit_xor left right) in
      subst (IsDivisible divisor) whole (IsDivisible-sum divisor (bit_xor m r) (bit_xor n s) first.divided.divisible second.divided.divisible)

  -- so two that differ differ in as many bits as a multiple has ones at least
  pub apart_by_multiples : (most apart : ℕ) → ((m : ℕ) → 0 < m → m < 2 ^ most → IsDivisible divisor m → apart ≤ count_ones m)
      → length a ≡ length b → length a + width ≤ most → (a ++ bits_of width c ≡ b ++ bits_of width d → ⊥)
      → apart ≤ distance_of (a ++ bits_of width c) (b ++ bits_of width d)
  apart_by_multiples most apart fewest long short differ =
      let x = a ++ bits_of width c in
      let y = b ++ bits_of width d in
      let long_x : length x ≡ length a + width = length-append a (bits_of width c) ∙ ap (λ n. length a + n) (length-bits_of width c) in
      let long_y : length y ≡ length b + width = length-append b (bits_of width d) ∙ ap (λ n. length b + n) (length-bits_of width d) in
      let same_length : length x ≡ length y = omega (arith, long_x, long_y) in
      let within : length x ≤ most = omega (arith, long_x) in
      let m = bit_xor (field_of x) (field_of y) in
      let below_y : field_of y < 2 ^ length x = subst (λ n. field_of y < 2 ^ n) (sym same_length) (field_of-lt y) in
      let below : m < 2 ^ most = lt_of_lt_of_le (xor_lt (length x) (field_of x) (field_of y) (field_of-lt x) below_y) (pow_mono within) in
      let weight : count_ones m ≡ distance_of x y = ones-xor x y same_length in
      elim (cases_lt 0 m) [
        | inl some ↦ omega (arith, weight, fewest m some below sum_divides)
        | inr none ↦ absurd (differ (same_from_field_of x y same_length (same_from_xor (field_of x) (field_of y) (omega arith))))
      ]

-- two different header words differ in four bits at least
pub header_words_apart : (octets other : List ℕ) → length octets ≡ 10 → length other ≡ 10 → (header_word octets ≡ header_word other → ⊥)
    → 4 ≤ distance_of (header_word octets) (header_word other)
unfolding header_word IsCrc16
header_words_apart octets other long long' differ =
    let bits : length (octet_bits octets) ≡ 80 = omega (arith, length-octet_bits octets) in
    let bits' : length (octet_bits other) ≡ 80 = omega (arith, length-octet_bits other) in
    apart_by_multiples header_divisor 16 (octet_bits octets) (octet_bits other) (crc16_of octets) (crc16_of other) (IsCrc16-crc16_of octets) (IsCrc16-crc16_of other)
    96 4 (four_at_least header_divisor 16 95 header_degree refl (lit< tt) header_none header_no_two) (bits ∙ sym bits') (omega arith) differ

-- two different words of a whole packet of at most 127 blocks differ in four bits at least
pub packet_words_apart : (octets other : List ℕ) → length octets ≡ length other → length octets + 4 ≤ 1524 → (packet_word octets ≡ packet_word other → ⊥)
    → 4 ≤ distance_of (packet_word octets) (packet_word other)
unfolding packet_word IsCrc32
packet_words_apart octets other long short differ =
    let same : length (octet_bits octets) ≡ length (octet_bits other) = omega (arith, length-octet_bits octets, length-octet_bits other) in
    let within : length (octet_bits octets) + 32 ≤ 12192 = omega (arith, length-octet_bits octets) in
    apart_by_multiples packet_divisor 32 (octet_bits octets) (octet_bits other) (crc32_of octets) (crc32_of other) (IsCrc32-crc32_of octets) (IsCrc32-crc32_of other)
    12192 4 (four_at_least packet_divisor 32 12191 packet_degree refl (lit< tt) packet_none packet_no_two) same within differ

-- two different words of a confirmed block differ in three bits at least: the check comes before the octets, which changes no distance
pub block_words_apart : (serial other_serial : ℕ) (octets other : List ℕ) → length octets ≡ 16 → length other ≡ 16
    → (block_word serial octets ≡ block_word other_serial other → ⊥) → 3 ≤ distance_of (block_word serial octets) (block_word other_serial other)
unfolding block_word IsCrc9
block_words_apart serial other_serial octets other long long' differ =
    let s = bits_of 7 serial in
    let s' = bits_of 7 other_serial in
    let o = octet_bits octets in
    let o' = octet_bits other in
    let c = bits_of 9 (crc9_of serial octets) in
    let c' = bits_of 9 (crc9_of other_serial other) in
    let serials : length s ≡ length s' = length-bits_of 7 serial ∙ sym (length-bits_of 7 other_serial) in
    let checks : length c ≡ length c' = length-bits_of 9 (crc9_of serial octets) ∙ sym (length-bits_of 9 (crc9_of other_serial other)) in
    let bits : length o ≡ 128 = omega (arith, length-octet_bits octets) in
    let bits' : length o' ≡ 128 = omega (arith, length-octet_bits other) in
    let messages : length (s ++ o) ≡ length (s' ++ o') = length-append s o ∙ ap₂ ◌+◌ serials (bits ∙ sym bits') ∙ sym (length-append s' o') in
    let words : length (s ++ (c ++ o)) ≡ length (s' ++ (c' ++ o'))
    = length-append s (c ++ o) ∙ ap₂ ◌+◌ serials (length-append c o ∙ ap₂ ◌+◌ checks (bits ∙ sym bits') ∙ sym (length-append c' o')) ∙ sym (length-append s' (c' ++ o')) in
    let ordered : distance_of ((s ++ o) ++ c) ((s' ++ o') ++ c') ≡ distance_of s s' + distance_of o o' + distance_of c c'
    = distance_by-append beq (s ++ o) c (s' ++ o') c' messages ∙ ap (λ n. n + distance_of c c') (distance_by-append beq s o s' o' serials) in
    let sent : distance_of (s ++ (c ++ o)) (s' ++ (c' ++ o')) ≡ distance_of s s' + (distance_of c c' + distance_of o o')
    = distance_by-append beq s (c ++ o) s' (c' ++ o') serials ∙ ap (λ n. distance_of s s' + n) (distance_by-append beq c o c' o' checks) in
    let other_order : (s ++ o) ++ c ≡ (s' ++ o') ++ c' → ⊥ = λ same.
    let none : distance_of ((s ++ o) ++ c) ((s' ++ o') ++ c') ≡ 0 = ap (distance_of ((s ++ o) ++ c)) (sym same) ∙ distance_of-same ((s ++ o) ++ c) in
    differ (same_from_distance_of _ _ words (omega (arith, none, ordered, sent))) in
    let whole : length (s ++ o) + 9 ≤ 144 = omega (arith, length-append s o, length-bits_of 7 serial) in
    let three = apart_by_multiples block_divisor 9 (s ++ o) (s' ++ o') (crc9_of serial octets) (crc9_of other_serial other) (IsCrc9-crc9_of serial octets) (IsCrc9-crc9_of other_serial other)
    144 3 (three_at_least block_divisor 9 143 block_degree refl (lit< tt) block_none) messages whole other_order in
    omega (arith, three, ordered, sent)

-- the check of a message with one coefficient that is not 0, and that of one with none
one_coefficient : (divisor width k : ℕ) (message : List Bool) → HasDegree divisor width → 1 < 2 ^ width → field_of message ≡ 2 ^ k
    → IsCheck divisor width message (inverted width (times_power divisor width (k + width) 1))
one_coefficient divisor width k message has small is =
    let once : 1 * 2 ^ (k + width) ≡ 2 ^ (k + width) = omega arith in
    let moved : 1 * 2 ^ (k + width) ≡ field_of message * 2 ^ width = once ∙ pow-add 2 k width ∙ sym (ap (λ n. n * 2 ^ width) is) in
    record {
      remainder = times_power divisor width (k + width) 1;
      divided = subst (λ n. IsRemainder divisor width n (times_power divisor width (k + width) 1)) moved (IsRemainder-times_power divisor width (k + width) 1 has small);
      inverts = refl;
    }

no_coefficient : (divisor width : ℕ) (message : List Bool) → field_of message ≡ 0 → IsCheck divisor width message (inverted width 0)
no_coefficient divisor width message none =
    let zero_times : 0 ≡ 0 * 2 ^ width = omega arith in
    let nothing : 0 ≡ field_of message * 2 ^ width = zero_times ∙ sym (ap (λ n. n * 2 ^ width) none) in
    let low : 0 < 2 ^ width = pow_pos width in
    record { remainder = 0; divided = subst (λ n. IsRemainder divisor width n 0) nothing (IsRemainder-lower divisor width 0 low); inverts = refl }

-- two header words that differ in four bits: x^16 + x^12 + x^5 + 1 is a multiple
abbrev pub header_zeros : List ℕ
header_zeros = replicate 10 0

abbrev pub header_one : List ℕ
header_one = replicate 9 0 ++ 1 ∷ []

header_values : (crc16_of header_zeros ≡ 0xFFFF) × (crc16_of header_one ≡ 0xEFDE)
unfolding IsCrc16 octet_bits bits_of field_of field_after times_power times_x
header_values =
    let zeros : field_of (octet_bits header_zeros) ≡ 0 = refl in
    let one : field_of (octet_bits header_one) ≡ 2 ^ 0 = refl in (
      IsCrc16-unique header_zeros _ 0xFFFF (IsCrc16-crc16_of header_zeros) (no_coefficient header_divisor 16 (octet_bits header_zeros) zeros),
      IsCrc16-unique header_one _ 0xEFDE (IsCrc16-crc16_of header_one) (one_coefficient header_divisor 16 0 (octet_bits header_one) header_degree (lit< tt) one),
    )

pub header_words_near : distance_of (header_word header_zeros) (header_word header_one) ≡ 4
unfolding header_word octet_bits bits_of distance_by
header_words_near =
    ap₂ (λ m n. distance_of (octet_bits header_zeros ++ bits_of 16 m) (octet_bits header_one ++ bits_of 16 n)) header_values.0 header_values.1

-- two words of a confirmed block that differ in three bits: x^140 + x + 1 is a multiple
abbrev pub block_zeros : List ℕ
block_zeros = replicate 16 0

block_values : (crc9_of 0 block_zeros ≡ 0x1FF) × (crc9_of 8 block_zeros ≡ 0x1FC)
unfolding IsCrc9 octet_bits bits_of field_of field_after times_power times_x
block_values =
    let zeros : field_of (block_message 0 block_zeros) ≡ 0 = refl in
    let one : field_of (block_message 8 block_zeros) ≡ 2 ^ 131 = refl in (
      IsCrc9-unique 0 block_zeros _ 0x1FF (IsCrc9-crc9_of 0 block_zeros) (no_coefficient block_divisor 9 (block_message 0 block_zeros) zeros),
      IsCrc9-unique 8 block_zeros _ 0x1FC (IsCrc9-crc9_of 8 block_zeros) (one_coefficient block_divisor 9 131 (block_message 8 block_zeros) block_degree (lit< tt) one),
    )

pub block_words_near : distance_of (block_word 0 block_zeros) (block_word 8 block_zeros) ≡ 3
unfolding block_word octet_bits bits_of distance_by
block_words_near =
    ap₂ (λ m n. distance_of (bits_of 7 0 ++ (bits_of 9 m ++ octet_bits block_zeros)) (bits_of 7 8 ++ (bits_of 9 n ++ octet_bits block_zeros))) block_values.0 block_values.1

-- two words of a packet of 32 blocks that differ in four bits: x^3006 + x^2866 + x^2215 + 1 is a multiple
abbrev pub packet_zeros : List ℕ
packet_zeros = replicate 380 0

abbrev pub packet_three : List ℕ
packet_three = replicate 8 0 ++ 64 ∷ replicate 16 0 ++ 4 ∷ replicate 81 0 ++ 128 ∷ replicate 272 0

packet_sum : bit_xor (bit_xor (2 ^ 3006) (2 ^ 2866)) (2 ^ 2215) ≡ field_of (octet_bits packet_three) * 2 ^ 32
unfolding octet_bits bits_of field_of field_after
packet_sum = refl

packet_remainder : bit_xor (bit_xor (times_power packet_divisor 32 3006 1) (times_power packet_divisor 32 2866 1)) (times_power packet_divisor 32 2215 1) ≡ 1
unfolding times_power times_x
packet_remainder = refl

packet_divided : IsRemainder packet_divisor 32 (field_of (octet_bits packet_three) * 2 ^ 32) 1
packet_divided =
    subst (λ n. IsRemainder packet_divisor 32 n 1) packet_sum
    (subst (IsRemainder packet_divisor 32 (bit_xor (bit_xor (2 ^ 3006) (2 ^ 2866)) (2 ^ 2215))) packet_remainder
    (IsRemainder-sum packet_divisor 32 _ _ _ _ (IsRemainder-sum packet_divisor 32 _ _ _ _ (power 3006) (power 2866)) (power 2215)))
  where
    power : (i : ℕ) → IsRemainder packet_divisor 32 (2 ^ i) (times_power packet_divisor 32 i 1)
    power i = subst (λ n. IsRemainder packet_divisor 32 n (times_power packet_divisor 32 i 1)) (omega arith) (IsRemainder-times_power packet_divisor 32 i 1 packet_degree (lit< tt))

packet_values : (crc32_of packet_zeros ≡ 0xFFFF_FFFF) × (crc32_of packet_three ≡ 0xFFFF_FFFE)
unfolding IsCrc32 octet_bits bits_of field_of field_after
packet_values =
    let zeros : field_of (octet_bits packet_zeros) ≡ 0 = refl in (
      IsCrc32-unique packet_zeros _ 0xFFFF_FFFF (IsCrc32-crc32_of packet_zeros) (no_coefficient packet_divisor 32 (octet_bits packet_zeros) zeros),
      IsCrc32-unique packet_three _ 0xFFFF_FFFE (IsCrc32-crc32_of packet_three) (record { remainder = 1; divided = packet_divided; inverts = refl }),
    )

pub packet_words_near : distance_of (packet_word packet_zeros) (packet_word packet_three) ≡ 4
unfolding packet_word octet_bits bits_of distance_by
packet_words_near =
    ap₂ (λ m n. distance_of (octet_bits packet_zeros ++ bits_of 32 m) (octet_bits packet_three ++ bits_of 32 n)) packet_values.0 packet_values.1
