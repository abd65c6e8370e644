-- At a zero of the generator a polynomial has the value of its remainder.
use Rattle.std.specs.Prelude.{◌≡◌, ℕ, zero, suc, ◌+◌, ◌*◌, ◌/◌, ◌%◌, ◌^◌, ◌<◌, Bool, true, false, if◌then◌else◌, ◌==◌, List, [], ◌∷◌, length, bit_xor, refl}
use Rattle.std.specs.Int.{bit_at}
use Rattle.std.proofs.{Common.{ap, ap₂, sym, subst, ◌∙◌, inl, inr, arith}, lemmas.Bool.{cases_lt, cond_below, cond_above}}
use Rattle.std.proofs.{lemmas.Nat.{div-mul-add, mod-mul-add, pow_pos}, lemmas.Nat.Bits.{bit_at_above, bit_at_lowest}}
use Rattle.p25_bits.specs.{Bits.{digit_of, bits_of}, Divisible.{HasDegree}}
use Rattle.p25_bits.proofs.BitsLaws.{bits_of-suc, bits_of-zero, bits_of-add, length-bits_of}
use Rattle.p25_code.specs.Binary.{syndrome_of}
use Rattle.p25_code.proofs.{ParityLaws.{bits_of-xor}, RemainderLaws.{power_remainder, remainders, IsRemainder-power}}
use Rattle.p25_gf64.specs.Field.{Field, power}
use Rattle.p25_gf64.proofs.{FieldLaws.{add_zero, zero_add, mul_comm, mul_one, one_mul, mul_zero, zero_mul}, PowerLaws.{power-zero, power-one, power-suc}}
use Rattle.p25_reed_solomon.specs.BitValues.{bit_coefficient, bit_value, number_value}
use Rattle.p25_reed_solomon.proofs.BitValuesLaws.{bit_value-append, bit_value-sum, bit_value-nil, bit_value-cons}

module _ {F : Type 0} (K : Field F) (x : F) where
  open K use {zero as 𝟘, one as 𝟙, add as ◌⊕◌, mul as ◌⊗◌}

  infixl 65 ◌⊕◌
  infixl 70 ◌⊗◌
  -- a coefficient that a number does not have changes no value
  pub number_value-suc : (width number : ℕ) → number < 2 ^ width → number_value K x (suc width) number ≡ number_value K x width number
  number_value-suc width number low =
      cc (
        bits_of-suc width number,
        bit_value-cons K x _ (bits_of width number),
        bit_at_above number width width low (omega arith),
        zero_mul K _,
        zero_add K (number_value K x width number),
      )

  -- the value of 0 is zero
  pub number_value-zero : (width : ℕ) → number_value K x width 0 ≡ 𝟘
  number_value-zero zero = simp (bits_of-zero, bit_value-nil)
  number_value-zero (suc width) = number_value-suc width 0 (pow_pos width) ∙ number_value-zero width

  -- one more coefficient below the others
  pub number_value-more : (width number : ℕ) (bit : Bool)
      → number_value K x (suc width) (2 * number + digit_of bit) ≡ x ⊗ number_value K x width number ⊕ bit_coefficient K bit
  number_value-more width number bit =
      let e : suc width ≡ width + 1 = omega arith in
      let n = 2 * number + digit_of bit in
      let low : digit_of bit < 2 = digit-lt bit in
      let swapped : n ≡ number * 2 + digit_of bit = omega arith in
      let high : n / 2 ^ 1 ≡ number = ap (λ m. m / 2) swapped ∙ div-mul-add number 2 (digit_of bit) low in
      let last : n % 2 ≡ digit_of bit = ap (λ m. m % 2) swapped ∙ mod-mul-add number 2 (digit_of bit) low in
      ap (λ w. number_value K x w n) e
      ∙ ap (bit_value K x) (bits_of-add width 1 n)
      ∙ bit_value-append K x (bits_of width (n / 2 ^ 1)) (bits_of 1 n)
      ∙ ap₂ (λ v w. v ⊗ power K x w ⊕ number_value K x 1 n) (ap (number_value K x width) high) (length-bits_of 1 n)
      ∙ ap₂ ◌⊕◌ (ap (λ p. number_value K x width number ⊗ p) (power-one K x) ∙ mul_comm K (number_value K x width number) x) (one_bit n bit last)
    where
      digit-lt : (bit : Bool) → digit_of bit < 2
      digit-lt true = omega arith
      digit-lt false = omega arith

      test : (bit : Bool) → (digit_of bit == 1) ≡ bit
      test true = refl
      test false = refl

      one_bit : (n : ℕ) (bit : Bool) → n % 2 ≡ digit_of bit → number_value K x 1 n ≡ bit_coefficient K bit
      one_bit n bit last =
          ap (bit_value K x) (bits_of-suc 0 n)
          ∙ bit_value-cons K x (bit_at n 0 == 1) (bits_of 0 n)
          ∙ ap₂ ◌⊕◌
          (
          ap₂ (λ b w. bit_coefficient K b ⊗ power K x w) (ap (λ m. m == 1) (bit_at_lowest n ∙ last) ∙ test bit) (length-bits_of 0 n)
          ∙ ap (λ p. bit_coefficient K bit ⊗ p) (power-zero K x)
          ∙ mul_one K (bit_coefficient K bit)
          )
          (ap (bit_value K x) (bits_of-zero n) ∙ bit_value-nil K x)
          ∙ add_zero K (bit_coefficient K bit)

  -- the value of 1 is one
  number_value-one : (width : ℕ) → 1 < 2 ^ width → number_value K x width 1 ≡ 𝟙
  number_value-one zero some = absurd (omega arith)
  number_value-one (suc width) some =
      cc (number_value-more width 0 true, number_value-zero width, mul_zero K x, zero_add K 𝟙)

  -- the value of a sum is the sum of the values
  pub number_value-xor : (width a b : ℕ) → number_value K x width (bit_xor a b) ≡ number_value K x width a ⊕ number_value K x width b
  number_value-xor width a b =
      rw (bits_of-xor width a b, bit_value-sum K x (bits_of width a) (bits_of width b) (simp length-bits_of))

  module _ (generator degree : ℕ) (has : HasDegree generator degree) (some : 1 < 2 ^ degree) (root : number_value K x (suc degree) generator ≡ 𝟘) where
    -- the remainder of a power has the value of the power
    pub power_remainder_value : (n : ℕ) → number_value K x degree (power_remainder generator degree n) ≡ power K x n
    unfolding power_remainder
    power_remainder_value zero = simp (number_value-one, power-zero)
    power_remainder_value (suc n) =
        let r = power_remainder generator degree n in
        let whole : 2 * r ≡ 2 * r + 0 = omega arith in
        let twice : number_value K x (suc degree) (2 * r) ≡ power K x (suc n) =
        cc (number_value-more degree r false, power_remainder_value n, add_zero K _, power-suc K x n) in
        elim (cases_lt (2 * r) (2 ^ degree)) [
          | inl low ↦
              rw (← cond_below, ← number_value-suc, twice)
          | inr high ↦
              let reduced = sym (cond_above _ _ _ _ _ high refl) in
              let low : bit_xor (2 * r) generator < 2 ^ degree = subst (λ m. m < 2 ^ degree) reduced (IsRemainder-power has some (suc n)).lower in
              rw (reduced, ← number_value-suc, number_value-xor, twice, root, add_zero)
        ]

    -- the remainder of a word's polynomial has the value of the word
    pub word_value : (word : List Bool) → number_value K x degree (syndrome_of (remainders generator degree (length word)) word) ≡ bit_value K x word
    unfolding syndrome_of remainders
    word_value [] = simp (number_value-zero, bit_value-nil)
    word_value (bit ∷ word) =
        cc (
          number_value-xor degree _
              _,
          chosen bit,
          word_value word,
          bit_value-cons K x bit word,
        )
      where
        chosen : (bit : Bool)
            → number_value K x degree (if bit then power_remainder generator degree (length word) else 0) ≡ bit_coefficient K bit ⊗ power K x (length word)
        chosen true = power_remainder_value (length word) ∙ sym (one_mul K (power K x (length word)))
        chosen false = number_value-zero degree ∙ sym (zero_mul K (power K x (length word)))
