-- The number of a message after each octet that is shifted into a register, and the check that the register holds at the end.
use Rattle.std.proofs.Common.{◌≡◌, ℕ, ◌+◌, ◌-◌, ◌*◌, ◌/◌, ◌^◌, ◌<◌, ◌≤◌, Bool, List, [], ◌∷◌, ◌++◌, length, take, drop, get_or, bit_xor, refl, ap, ap₂, sym, ◌∙◌, subst, arith, append_assoc, take-append-drop, length-drop}
use Rattle.std.proofs.{lemmas.List.{take_all, take_more, append-nil}, Math.Nat.{mod-eq_of_lt, mul_assoc}, lemmas.Nat.{pow_pos, pow-add}}
use Rattle.std.specs.Int.{w32, from_be_bytes}
use Rattle.p25_bits.specs.{Bits.{bits_of, field_of, octet_bits}, Divisible.{IsRemainder}}
use Rattle.p25_bits.proofs.{BitsLaws.{field_of-nil, field_of-append, field_of-bits_of, length-bits_of, octet_bits-append, octet_bits-cons, octet_bits-nil}, DivisibleLaws.{IsRemainder-lower}}
use Rattle.p25_bits.proofs.DivisionLaws.{IsRemainder-without_power}
use Rattle.p25_crc.specs.Checks.{IsCheck}

-- an empty register is the remainder of no bits
pub empty_register : (divisor : ℕ) → IsRemainder divisor 32 (field_of [] * 2 ^ 32) 0
empty_register divisor = subst (λ (n : ℕ). IsRemainder divisor 32 (n * 2 ^ 32) 0) (sym field_of-nil) (IsRemainder-lower divisor 32 0 (pow_pos 32))

-- the number of bits before `width` bits of a number
pub field_of-bits : (before : List Bool) (width number : ℕ) → number < 2 ^ width → field_of (before ++ bits_of width number) ≡ field_of before * 2 ^ width + number
field_of-bits before width number below =
    field_of-append before (bits_of width number)
    ∙ ap₂ (λ n r. field_of before * 2 ^ n + r) (length-bits_of width number) (field_of-bits_of width number ∙ mod-eq_of_lt below)

octet_bits-more : (octets : List ℕ) (i : ℕ) → i < length octets → octet_bits (take (i + 1) octets) ≡ octet_bits (take i octets) ++ bits_of 8 (get_or octets i 0)
octet_bits-more octets i h =
    ap octet_bits (take_more octets i 0 h)
    ∙ octet_bits-append (take i octets) (get_or octets i 0 ∷ [])
    ∙ ap (λ bits. octet_bits (take i octets) ++ bits) (octet_bits-cons (get_or octets i 0) []
    ∙ ap (λ bits. bits_of 8 (get_or octets i 0) ++ bits) octet_bits-nil ∙ append-nil (bits_of 8 (get_or octets i 0)))

-- the number of bits and octets, with one more octet
pub octets_more : (before : List Bool) (octets : List ℕ) (i : ℕ) → i < length octets → get_or octets i 0 < 2 ^ 8
    → field_of (before ++ octet_bits (take (i + 1) octets)) ≡ field_of (before ++ octet_bits (take i octets)) * 2 ^ 8 + get_or octets i 0
octets_more before octets i h small =
    ap (λ bits. field_of (before ++ bits)) (octet_bits-more octets i h)
    ∙ ap field_of (sym (append_assoc before (octet_bits (take i octets)) (bits_of 8 (get_or octets i 0))))
    ∙ field_of-bits (before ++ octet_bits (take i octets)) 8 (get_or octets i 0) small

-- a word that is read from four octets is their number
pub word_is : (a b c d : ℕ) → from_be_bytes w32 (a ∷ b ∷ c ∷ d ∷ []) ≡ ((a * 2 ^ 8 + b) * 2 ^ 8 + c) * 2 ^ 8 + d
word_is a b c d = omega arith

-- the number of bits and octets, with four more octets
pub word_more : (before : List Bool) (octets : List ℕ) (k : ℕ) → 4 * k + 4 ≤ length octets → ((i : ℕ) → get_or octets i 0 < 2 ^ 8)
    → field_of (before ++ octet_bits (take (4 * (k + 1)) octets)) ≡ field_of (before ++ octet_bits (take (4 * k) octets)) * 2 ^ 32
    + from_be_bytes w32 (get_or octets (4 * k) 0 ∷ get_or octets (4 * k + 1) 0 ∷ get_or octets (4 * k + 2) 0 ∷ get_or octets (4 * k + 3) 0 ∷ [])
word_more before octets k there small =
    let i = 4 * k in
    let number : ℕ → ℕ = λ n. field_of (before ++ octet_bits (take n octets)) in
    let first : number (i + 1) ≡ number i * 2 ^ 8 + get_or octets i 0 = octets_more before octets i (omega arith) (small i) in
    let second : number (i + 2) ≡ number (i + 1) * 2 ^ 8 + get_or octets (i + 1) 0 = octets_more_at (i + 1) (i + 2) (omega arith) (omega arith) in
    let third : number (i + 3) ≡ number (i + 2) * 2 ^ 8 + get_or octets (i + 2) 0 = octets_more_at (i + 2) (i + 3) (omega arith) (omega arith) in
    let last : number (4 * (k + 1)) ≡ number (i + 3) * 2 ^ 8 + get_or octets (i + 3) 0 = octets_more_at (i + 3) (4 * (k + 1)) (omega arith) (omega arith) in
    omega (arith, first, second, third, last, word_is (get_or octets i 0) (get_or octets (i + 1) 0) (get_or octets (i + 2) 0) (get_or octets (i + 3) 0))
  where
    octets_more_at : (i next : ℕ) → next ≡ i + 1 → i < length octets
        → field_of (before ++ octet_bits (take next octets)) ≡ field_of (before ++ octet_bits (take i octets)) * 2 ^ 8 + get_or octets i 0
    octets_more_at i next e inside = ap (λ n. field_of (before ++ octet_bits (take n octets))) e ∙ octets_more before octets i inside (small i)

-- octets in two runs, after bits
pub octets_in_two : (before : List Bool) (m n : ℕ) (octets : List ℕ) → m ≡ n
    → (before ++ octet_bits (take m octets)) ++ octet_bits (take (length octets - n) (drop n octets)) ≡ before ++ octet_bits octets
octets_in_two before m n octets same =
    let all : length (drop n octets) ≤ length octets - n = omega (arith, length-drop n octets) in
    append_assoc before (octet_bits (take m octets)) (octet_bits (take (length octets - n) (drop n octets)))
    ∙ ap₂ (λ k rest. before ++ (octet_bits (take k octets) ++ octet_bits rest)) same (take_all (length octets - n) (drop n octets) all)
    ∙ ap (λ bits. before ++ bits) (sym (octet_bits-append (take n octets) (drop n octets)) ∙ ap octet_bits (take-append-drop n octets))

-- before the first octet
pub octets_none : (before : List Bool) → field_of (before ++ octet_bits []) ≡ field_of before
octets_none before = ap (λ bits. field_of (before ++ bits)) octet_bits-nil ∙ ap field_of (append-nil before)

-- the seven bits of a serial number and its octet are the same number
pub serial_octet : (serial : ℕ) → serial < 128 → field_of ([] ++ octet_bits (serial ∷ [])) ≡ field_of (bits_of 7 serial)
serial_octet serial small =
    let fits : serial < 2 ^ 8 = omega arith in
    ap (λ bits. field_of ([] ++ bits)) (octet_bits-cons serial [] ∙ ap (λ bits. bits_of 8 serial ++ bits) octet_bits-nil ∙ append-nil (bits_of 8 serial))
    ∙ field_of-bits_of 8 serial
    ∙ mod-eq_of_lt fits
    ∙ sym (field_of-bits_of 7 serial ∙ mod-eq_of_lt small)

-- the highest bits of the register, inverted, are the check of the bits that it took
pub IsCheck-register : (divisor width extra : ℕ) (message : List Bool) (register : ℕ) → width + extra ≡ 32 → IsRemainder (divisor * 2 ^ extra) 32 (field_of message * 2 ^ 32) register
    → IsCheck divisor width message (bit_xor (register / 2 ^ extra) (2 ^ width - 1))
IsCheck-register divisor width extra message register whole is =
    let raised : field_of message * 2 ^ 32 ≡ field_of message * 2 ^ width * 2 ^ extra
    = ap (λ n. field_of message * 2 ^ n) (sym whole) ∙ ap (λ n. field_of message * n) (pow-add 2 width extra) ∙ sym (mul_assoc (field_of message) (2 ^ width) (2 ^ extra)) in
    record {
      remainder = register / 2 ^ extra;
      divided =
          IsRemainder-without_power divisor width extra (field_of message * 2 ^ width) register
          (subst (λ n. IsRemainder (divisor * 2 ^ extra) (width + extra) n register) raised (subst (λ d. IsRemainder (divisor * 2 ^ extra) d (field_of message * 2 ^ 32) register) (sym whole) is));
      inverts = refl;
    }
