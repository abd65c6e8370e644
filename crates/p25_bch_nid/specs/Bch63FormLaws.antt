-- The two forms of the set: zero at α^1 to α^22, and divisible by the generator.
use Rattle.std.specs.Prelude.{◌≡◌, ℕ, zero, suc, ◌+◌, ◌-◌, ◌*◌, ◌%◌, ◌^◌, ◌<◌, ◌≤◌, ◌==◌, ◌||◌, ◌&&◌, nat_le, nat_lt, not, Bool, true, false, List, [], ◌∷◌, length, slice_index, bit_xor, refl}
use Rattle.std.proofs.{Common.{ap, ap₂, sym, subst, ◌∙◌, inl, inr, arith, lit≤, lit<}, Math.Nat.{mod-eq_of_lt}}
use Rattle.std.proofs.lemmas.Bool.{and_parts, or_cases, eqb-true, eq-eqb, leb-true, ltb-true, not-true, both_ways}
use Rattle.p25_bits.specs.{Bits.{digit_of, bits_of, field_of}, Divisible.{IsDivisible, HasDegree}}
use Rattle.p25_bits.proofs.BitsLaws.{length-bits_of, field_of-bits_of}
use Rattle.p25_code.specs.Binary.{syndrome_of}
use Rattle.p25_code.proofs.RemainderLaws.{remainders, IsRemainder-word, remainders-divisible, divisible-remainders}
use Rattle.p25_gf64.specs.{Field.{power}, Product.{product, product_by, product_power, times_x}}
use Rattle.p25_gf64.specs.{ProductLaws.{all_below, all_below_at, all_pairs_below, all_pairs_below_at}, Symbol.{number, alpha}, Gf64.{gf64}}
use Rattle.p25_gf64.specs.declared.symbol.Sym.{Sym}
use Rattle.p25_gf64.proofs.FieldLaws.{add_zero, zero_add, add_assoc, mul_assoc, mul_left_comm, add_mul, mul_one, zero_mul}
use Rattle.p25_gf64.proofs.PowerLaws.{power-zero, power-suc, power-add, power-mul, power-mod}
use Rattle.p25_gf64.proofs.SymbolLaws.{number_zero, number_one, number_alpha, number-add, number-mul, number-power, zero_from_number, alpha_to_63, alpha_exponents}
use Rattle.p25_algebra.specs.{Sums.{AreApart}, Series.{coefficient}}
use Rattle.p25_algebra.proofs.SumLaws.{sum_same}
use Rattle.p25_bch_nid.specs.Nid.{generator}
use Rattle.p25_reed_solomon.specs.{BitValues.{bit_coefficient, bit_value, number_value}, Words.{value_of}}
use Rattle.p25_reed_solomon.proofs.{BitValuesLaws.{bit_value-nil, bit_value-cons, bit_value-square, bit_value-places, no_coefficient}, RemainderValuesLaws.{number_value-zero, word_value}}
use Rattle.p25_bch_nid.specs.Bch63.{IsBch63, symbols_of}

-- the generator has degree 47
pub generator_degree : HasDegree generator 47
generator_degree = record { highest = lit≤ tt; none_above = lit< tt }

some : 1 < 2 ^ 47
some = lit< tt

-- ---- sums over positions are values

-- the sum over the positions is the value of the word's polynomial at α^i
pub value_of-symbols : (word : List Bool) (n i : ℕ) → length word ≡ n → value_of n (symbols_of word) i ≡ bit_value gf64 (power gf64 alpha i) word
value_of-symbols word n i long =
    subst (λ m. value_of m (symbols_of word) i ≡ bit_value gf64 (power gf64 alpha i) word) long
    (
    sum_same gf64 (length word)
    (λ j. gf64.mul (coefficient gf64 (symbols_of word) j) (power gf64 alpha (i * (length word - 1 - j))))
    (λ j. gf64.mul (coefficient gf64 (symbols_of word) j) (power gf64 (power gf64 alpha i) (length word - 1 - j)))
    (λ j h. ap (gf64.mul (coefficient gf64 (symbols_of word) j)) (power-mul gf64 alpha i (length word - 1 - j)))
    ∙ bit_value-places gf64 (power gf64 alpha i) word
    )

-- ---- the generator is zero at α^1 to α^22

-- a value by Horner's rule, on numbers
unfoldable pub horner : ℕ → ℕ → List Bool → ℕ
horner x high [] = high
horner x high (bit ∷ bits) = horner x (bit_xor (product x high) (digit_of bit)) bits

digit_number : (bit : Bool) → number (bit_coefficient gf64 bit) ≡ digit_of bit
digit_number true = number_one
digit_number false = number_zero

-- it is the value, after the coefficients before
pub horner-value : (x high : Sym) (bits : List Bool)
    → horner (number x) (number high) bits ≡ number (gf64.add (gf64.mul high (power gf64 x (length bits))) (bit_value gf64 x bits))
unfolding horner
horner-value x high [] =
    ap number (sym (ap₂ gf64.add (ap (gf64.mul high) (power-zero gf64 x) ∙ mul_one gf64 high) (bit_value-nil gf64 x) ∙ add_zero gf64 high))
horner-value x high (bit ∷ bits) =
    let c = bit_coefficient gf64 bit in
    let next = gf64.add (gf64.mul x high) c in
    let e : bit_xor (product (number x) (number high)) (digit_of bit) ≡ number next
    = sym (number-add (gf64.mul x high) c ∙ ap₂ bit_xor (number-mul x high) (digit_number bit)) in
    ap (λ n. horner (number x) n bits) e
    ∙ horner-value x next bits
    ∙ ap number
    (
    regroup x high c (power gf64 x (length bits)) (bit_value gf64 x bits)
    ∙ sym (ap₂ (λ p v. gf64.add (gf64.mul high p) v) (power-suc gf64 x (length bits)) (bit_value-cons gf64 x bit bits))
    )
  where
    regroup : (x h c p v : Sym) → gf64.add (gf64.mul (gf64.add (gf64.mul x h) c) p) v ≡ gf64.add (gf64.mul h (gf64.mul x p)) (gf64.add (gf64.mul c p) v)
    regroup x h c p v =
        ap (λ w. gf64.add w v) (add_mul gf64 (gf64.mul x h) c p ∙ ap (λ w. gf64.add w (gf64.mul c p)) (mul_assoc gf64 x h p ∙ mul_left_comm gf64 x h p))
        ∙ add_assoc gf64 (gf64.mul h (gf64.mul x p)) (gf64.mul c p) v

roots_computed : all_below 22 (λ i. horner (product_power 2 (suc i)) 0 (bits_of 48 generator) == 0) ≡ true
unfolding all_below horner product product_by product_power times_x bits_of
roots_computed = refl

generator_root : (i : ℕ) → 1 ≤ i → i ≤ 22 → number_value gf64 (power gf64 alpha i) 48 generator ≡ gf64.zero
generator_root zero low high = absurd (omega arith)
generator_root (suc i) low high =
    let x = power gf64 alpha (suc i) in
    let bits = bits_of 48 generator in
    let none = eqb-true _ _ (all_below_at 22 (λ i. horner (product_power 2 (suc i)) 0 (bits_of 48 generator) == 0) roots_computed i (omega arith)) in
    zero_from_number (bit_value gf64 x bits)
    (ap number (sym (ap (λ w. gf64.add w (bit_value gf64 x bits)) (zero_mul gf64 (power gf64 x (length bits))) ∙ zero_add gf64 (bit_value gf64 x bits)))
    ∙ sym (horner-value x gf64.zero bits)
    ∙ ap₂ (λ a b. horner a b bits) (number-power alpha (suc i) ∙ ap (λ a. product_power a (suc i)) number_alpha) number_zero
    ∙ none)

-- at these the remainder of a word has the value of the word
remainder_value : (word : List Bool) (i : ℕ) → 1 ≤ i → i ≤ 22
    → number_value gf64 (power gf64 alpha i) 47 (syndrome_of (remainders generator 47 (length word)) word) ≡ bit_value gf64 (power gf64 alpha i) word
remainder_value word i low high = word_value gf64 (power gf64 alpha i) generator 47 generator_degree some (generator_root i low high) word

-- ---- a remainder that is zero at α^1 to α^22 is 0

-- the exponents of the 47 zeros: each row begins with a number up to 22, and each other is double the one before it, modulo 63
exponents : List ℕ
exponents =
    1 ∷ 2 ∷ 4 ∷ 8 ∷ 16 ∷ 32
    ∷ 3 ∷ 6 ∷ 12 ∷ 24 ∷ 48 ∷ 33
    ∷ 5 ∷ 10 ∷ 20 ∷ 40 ∷ 17 ∷ 34
    ∷ 7 ∷ 14 ∷ 28 ∷ 56 ∷ 49 ∷ 35
    ∷ 9 ∷ 18 ∷ 36
    ∷ 11 ∷ 22 ∷ 44 ∷ 25 ∷ 50 ∷ 37
    ∷ 13 ∷ 26 ∷ 52 ∷ 41 ∷ 19 ∷ 38
    ∷ 15 ∷ 30 ∷ 60 ∷ 57 ∷ 51 ∷ 39
    ∷ 21 ∷ 42
    ∷ []

exponent : ℕ → ℕ
exponent j = slice_index exponents j

-- a number from 1 to 22, or double another, modulo 63
unfoldable is_next : ℕ → ℕ → Bool
is_next before e = (nat_le 1 e && nat_le e 22) || e == 2 * before % 63

next_computed : all_below 46 (λ j. is_next (exponent j) (exponent (suc j))) ≡ true
unfolding all_below is_next exponent exponents
next_computed = refl

apart_computed : all_pairs_below 47 (λ i j. not (exponent i == exponent j) || i == j) ≡ true
unfolding all_pairs_below all_below exponent exponents
apart_computed = refl

below_computed : all_below 47 (λ j. nat_lt (exponent j) 63) ≡ true
unfolding all_below exponent exponents
below_computed = refl

zeros_apart : AreApart 47 (λ j. power gf64 alpha (exponent j))
zeros_apart = record { apart = apart }
  where
    low : (i : ℕ) → i < 47 → exponent i < 63
    low i h = ltb-true _ _ (all_below_at 47 (λ j. nat_lt (exponent j) 63) below_computed i h)

    apart : (i j : ℕ) → i < 47 → j < 47 → power gf64 alpha (exponent i) ≡ power gf64 alpha (exponent j) → i ≡ j
    apart i j hi hj e =
        let test = all_pairs_below_at 47 (λ i j. not (exponent i == exponent j) || i == j) apart_computed i j hi hj in
        elim (or_cases (not (exponent i == exponent j)) (i == j) test) [
          | inl other ↦
              let same = alpha_exponents (exponent i) (exponent j) (low i hi) (low j hj) e in
              absurd (both_ways (exponent i == exponent j) (not-true (exponent i == exponent j) other) (eq-eqb (exponent i) (exponent j) same))
          | inr same ↦ eqb-true _ _ same
        ]

module _ (bits : List Bool) (zeros : (i : ℕ) → 1 ≤ i → i ≤ 22 → bit_value gf64 (power gf64 alpha i) bits ≡ gf64.zero) where
  -- the double of the exponent of a zero is the exponent of a zero
  doubled : (e : ℕ) → bit_value gf64 (power gf64 alpha e) bits ≡ gf64.zero → bit_value gf64 (power gf64 alpha (2 * e % 63)) bits ≡ gf64.zero
  doubled e none =
      let twice : 2 * e ≡ e + e = omega arith in
      let square : power gf64 alpha (2 * e % 63) ≡ gf64.mul (power gf64 alpha e) (power gf64 alpha e)
      = sym (power-mod gf64 alpha 63 (2 * e) alpha_to_63 (omega arith)) ∙ ap (power gf64 alpha) twice ∙ power-add gf64 alpha e e in
      ap (λ x. bit_value gf64 x bits) square
      ∙ bit_value-square gf64 (power gf64 alpha e) bits
      ∙ ap (λ v. gf64.mul v (bit_value gf64 (power gf64 alpha e) bits)) none
      ∙ zero_mul gf64 (bit_value gf64 (power gf64 alpha e) bits)

  -- so each of the table is the exponent of a zero
  each_zero : (j : ℕ) → j < 47 → bit_value gf64 (power gf64 alpha (exponent j)) bits ≡ gf64.zero
  unfolding is_next exponent exponents
  each_zero zero h = zeros 1 (omega arith) (omega arith)
  each_zero (suc j) h =
      let test = all_below_at 46 (λ j. is_next (exponent j) (exponent (suc j))) next_computed j (omega arith) in
      elim (or_cases (nat_le 1 (exponent (suc j)) && nat_le (exponent (suc j)) 22) (exponent (suc j) == 2 * exponent j % 63) test) [
        | inl given ↦
            let parts = and_parts (nat_le 1 (exponent (suc j))) (nat_le (exponent (suc j)) 22) given in
            zeros (exponent (suc j)) (leb-true _ _ parts.0) (leb-true _ _ parts.1)
        | inr next ↦ ap (λ e. bit_value gf64 (power gf64 alpha e) bits) (eqb-true _ _ next) ∙ doubled (exponent j) (each_zero j (omega arith))
      ]

  -- 47 bits with 47 zeros are all 0
  only_zeros : length bits ≡ 47 → field_of bits ≡ 0
  only_zeros long =
      no_coefficient gf64 bits (λ j. power gf64 alpha (exponent j)) (subst (λ n. AreApart n (λ j. power gf64 alpha (exponent j))) (sym long) zeros_apart)
      (λ j h. each_zero j (omega arith))

-- ---- the two forms

-- a codeword is divisible by the generator
pub to_divisible : (word : List Bool) → IsBch63 word → IsDivisible generator (field_of word)
to_divisible word is =
    let r = syndrome_of (remainders generator 47 (length word)) word in
    let bits = bits_of 47 r in
    let zeros : (i : ℕ) → 1 ≤ i → i ≤ 22 → bit_value gf64 (power gf64 alpha i) bits ≡ gf64.zero
    = λ i low high. remainder_value word i low high ∙ sym (value_of-symbols word 63 i is.long) ∙ is.vanishes i low high in
    let low : r < 2 ^ 47 = (IsRemainder-word generator_degree some word).lower in
    divisible-remainders generator_degree some word (sym (mod-eq_of_lt low) ∙ sym (field_of-bits_of 47 r) ∙ only_zeros bits zeros (length-bits_of 47 r))

-- 63 bits divisible by the generator are a codeword
pub from_divisible : (word : List Bool) → length word ≡ 63 → IsDivisible generator (field_of word) → IsBch63 word
from_divisible word long divisible =
    let none = remainders-divisible generator_degree some word divisible in
    record {
      long = long;
      vanishes = λ i low high.
          value_of-symbols word 63 i long
          ∙ sym (remainder_value word i low high)
          ∙ ap (number_value gf64 (power gf64 alpha i) 47) none
          ∙ number_value-zero gf64 (power gf64 alpha i) 47;
    }
