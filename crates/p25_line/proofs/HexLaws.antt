-- Texts of octets: two lower-case digits for each octet, which `octets_of` reads back. A property of every digit is shown by a test of all of them.
use Rattle.std.proofs.Common.{◌≡◌, ℕ, zero, suc, ◌+◌, ◌*◌, ◌/◌, ◌%◌, ◌<◌, ◌==◌, ◌&&◌, Bool, true, cond, List, [], ◌∷◌, length, slice_index, inl, inr, refl, sym, ap, ap₂, ◌∙◌, arith}
use Rattle.std.proofs.{lemmas.Bool.{and_parts, cases_lt, eqb-true, ltb-true, cond-true}, lemmas.List.Elements.{All-nil, All-cons, All-head, All-tail}, lemmas.List.{get_or_past}}
use Rattle.std.specs.{Prelude.{nat_lt}, List.{list_all}}
use Rattle.hex.specs.Hex.{IsBytes, encode_with, encode_lower, lower_digits}
use Rattle.p25_line.specs.Values.{AllOctets, is_lower_digit, nibble_of, octets_of}

-- a test of each number below a bound, which computes
abbrev passes_below : ℕ → (ℕ → Bool) → Bool
passes_below zero test = true
passes_below (suc n) test = test n && passes_below n test

passes_below-at : (n : ℕ) (test : ℕ → Bool) (i : ℕ) → passes_below n test ≡ true → i < n → test i ≡ true
passes_below-at zero test i all below = absurd (omega arith)
passes_below-at (suc n) test i all below =
    let parts = and_parts (test n) (passes_below n test) all in
    elim (cases_lt i n) [
      | inl lower ↦ passes_below-at n test i parts.1 lower
      | inr top ↦ ap test (omega arith) ∙ parts.0
    ]

-- a test that the digit of a number below 16 is read back
abbrev reads_back : ℕ → Bool
reads_back nibble = is_lower_digit (slice_index lower_digits nibble) && (nibble_of (slice_index lower_digits nibble) == nibble)

-- the digit of a number below 16, and its value
pub digit_facts : (nibble : ℕ) → nibble < 16 → (is_lower_digit (slice_index lower_digits nibble) ≡ true) × (nibble_of (slice_index lower_digits nibble) ≡ nibble)
digit_facts nibble below =
    let parts = and_parts (is_lower_digit (slice_index lower_digits nibble)) (nibble_of (slice_index lower_digits nibble) == nibble) (passes_below-at 16 reads_back nibble refl below) in
    (parts.0, eqb-true (nibble_of (slice_index lower_digits nibble)) nibble parts.1)

-- a number below 103 is no digit, or is the digit of its value, which is below 16
abbrev is_written_back : ℕ → Bool
is_written_back digit = cond (is_lower_digit digit) ((slice_index lower_digits (nibble_of digit) == digit) && nat_lt (nibble_of digit) 16) true

nibble_facts : (digit : ℕ) → is_lower_digit digit ≡ true → (slice_index lower_digits (nibble_of digit) ≡ digit) × (nibble_of digit < 16)
nibble_facts digit lower =
    let test : ((slice_index lower_digits (nibble_of digit) == digit) && nat_lt (nibble_of digit) 16) ≡ true =
    sym (cond-true (is_lower_digit digit) ((slice_index lower_digits (nibble_of digit) == digit) && nat_lt (nibble_of digit) 16) true lower)
    ∙ passes_below-at 103 is_written_back digit refl (grind arith) in
    let parts = and_parts (slice_index lower_digits (nibble_of digit) == digit) (nat_lt (nibble_of digit) 16) test in
    (eqb-true (slice_index lower_digits (nibble_of digit)) digit parts.0, ltb-true (nibble_of digit) 16 parts.1)

-- the text of octets has digits alone
pub list_all-encode_lower : (octets : List ℕ) → AllOctets octets → list_all is_lower_digit (encode_lower octets) ≡ true
unfolding encode_with
list_all-encode_lower [] fits = refl
list_all-encode_lower (octet ∷ octets) fits =
    let here : octet < 256 = All-head (λ x. x < 256) octet octets fits in
    let high = digit_facts (octet / 16) (omega arith) in
    let low = digit_facts (octet % 16) (omega arith) in
    cc (high.0, low.0, list_all-encode_lower octets (All-tail (λ x. x < 256) octet octets fits))

-- the octets of a text are the octets that it was made of
pub octets_of-encode_lower : (octets : List ℕ) → AllOctets octets → octets_of (encode_lower octets) ≡ octets
unfolding encode_with octets_of
octets_of-encode_lower [] fits = refl
octets_of-encode_lower (octet ∷ octets) fits =
    let here : octet < 256 = All-head (λ x. x < 256) octet octets fits in
    let high = digit_facts (octet / 16) (omega arith) in
    let low = digit_facts (octet % 16) (omega arith) in
    let value : 16 * nibble_of (slice_index lower_digits (octet / 16)) + nibble_of (slice_index lower_digits (octet % 16)) ≡ octet = omega (arith, high.1, low.1) in
    cc (value, octets_of-encode_lower octets (All-tail (λ x. x < 256) octet octets fits))

-- a text of 2 * n digits is the text of its octets, which fit
pub octets_of-facts : (n : ℕ) (word : List ℕ) → length word ≡ 2 * n → list_all is_lower_digit word ≡ true
    → (encode_lower (octets_of word) ≡ word) × (AllOctets (octets_of word)) × (length (octets_of word) ≡ n)
unfolding encode_with octets_of
octets_of-facts zero [] even digits = (refl, All-nil (λ x. x < 256), refl)
octets_of-facts (suc n) (high ∷ low ∷ word) even digits =
    let first = and_parts (is_lower_digit high) (list_all is_lower_digit (low ∷ word)) digits in
    let second = and_parts (is_lower_digit low) (list_all is_lower_digit word) first.1 in
    let up = nibble_facts high first.0 in
    let down = nibble_facts low second.0 in
    let octet = 16 * nibble_of high + nibble_of low in
    let others = octets_of-facts n word (omega arith) second.1 in (
      ap₂ ◌∷◌ (ap (slice_index lower_digits) (omega arith) ∙ up.0) (ap₂ ◌∷◌ (ap (slice_index lower_digits) (omega arith) ∙ down.0) others.0),
      All-cons (λ x. x < 256) octet (octets_of word) (omega arith) others.1,
      ap suc others.2,
    )
octets_of-facts n word even digits = absurd (omega arith)

-- octets as in the kit's hexadecimal crate
pub IsBytes-AllOctets : (octets : List ℕ) → AllOctets octets → IsBytes octets
IsBytes-AllOctets octets fits i = elim (cases_lt i (length octets)) [
  | inl inside ↦ fits i 0 inside
  | inr past ↦ let none : slice_index octets i ≡ 0 = get_or_past octets i 0 past in omega arith
]
