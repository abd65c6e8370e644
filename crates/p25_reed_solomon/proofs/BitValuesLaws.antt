-- Polynomials whose coefficients are bits: their values in a field of characteristic 2.
use Rattle.std.specs.Prelude.{◌≡◌, ℕ, suc, ◌-◌, ◌<◌, Bool, true, false, List, [], ◌∷◌, ◌++◌, length, map, refl}
use Rattle.std.proofs.Common.{ap, ap₂, sym, ◌∙◌, arith, length-append}
use Rattle.p25_bits.proofs.BitsLaws.{field_of-nil, field_of-cons}
use Rattle.p25_bits.specs.Bits.{field_of}
use Rattle.p25_code.proofs.WeightLaws.{sum_of_words, length-sum_of_words}
use Rattle.p25_gf64.specs.Field.{Field, power}
use Rattle.p25_gf64.proofs.FieldLaws.{add_assoc, add_zero, zero_add, add_self, add_twice, add_swap, mul_comm, mul_assoc, mul_left_comm, mul_one, mul_add, add_mul, zero_mul}
use Rattle.p25_gf64.proofs.PowerLaws.{power-add, power_of_mul}
use Rattle.p25_reed_solomon.specs.BitValues.{bit_coefficient, bit_value}
use Rattle.p25_algebra.specs.{Sums.{sum_below, AreApart}, Series.{coefficient, value_at}}
use Rattle.p25_algebra.proofs.{SumLaws.{sum-none, sum_first, sum_same, sum_reverse}, ValueLaws.{few_zeros}}

module _ {F : Type 0} (K : Field F) where
  open K use {zero as 𝟘, one as 𝟙, add as ◌⊕◌, mul as ◌⊗◌}

  infixl 65 ◌⊕◌
  infixl 70 ◌⊗◌
  -- no coefficients
  pub bit_value-nil : (x : F) → bit_value K x [] ≡ 𝟘
  unfolding bit_value
  bit_value-nil x = refl

  -- one coefficient above the others
  pub bit_value-cons : (x : F) (bit : Bool) (bits : List Bool)
      → bit_value K x (bit ∷ bits) ≡ bit_coefficient K bit ⊗ power K x (length bits) ⊕ bit_value K x bits
  unfolding bit_value
  bit_value-cons x bit bits = refl

  -- the value of two runs of coefficients, the higher first
  pub bit_value-append : (x : F) (high low : List Bool) → bit_value K x (high ++ low) ≡ bit_value K x high ⊗ power K x (length low) ⊕ bit_value K x low
  unfolding bit_value
  bit_value-append x [] low = sym (ap (λ w. w ⊕ bit_value K x low) (zero_mul K (power K x (length low))) ∙ zero_add K (bit_value K x low))
  bit_value-append x (bit ∷ high) low =
      ap₂ (λ p v. bit_coefficient K bit ⊗ p ⊕ v) (ap (power K x) (length-append high low) ∙ power-add K x (length high) (length low))
      (bit_value-append x high low)
      ∙ regroup (bit_coefficient K bit) (power K x (length high)) (bit_value K x high) (power K x (length low)) (bit_value K x low)
    where
      regroup : (d p v q w : F) → d ⊗ (p ⊗ q) ⊕ (v ⊗ q ⊕ w) ≡ (d ⊗ p ⊕ v) ⊗ q ⊕ w
      regroup d p v q w = simp (add_mul K, mul_assoc K, add_assoc K)

  -- one more position before two sums whose other terms are known
  sum_first_places : (x : F) (a b : List Bool) (e d c : Bool) → length a ≡ length b → bit_coefficient K e ≡ bit_coefficient K d ⊕ bit_coefficient K c
      → bit_value K x (sum_of_words a b) ≡ bit_value K x a ⊕ bit_value K x b
      → bit_value K x (e ∷ sum_of_words a b) ≡ bit_value K x (d ∷ a) ⊕ bit_value K x (c ∷ b)
  unfolding bit_value
  sum_first_places x a b e d c long digit rest =
      let p = power K x (length a) in
      ap₂ (λ n v. bit_coefficient K e ⊗ power K x n ⊕ v) (length-sum_of_words a b long) rest
      ∙ ap (λ w. w ⊗ p ⊕ (bit_value K x a ⊕ bit_value K x b)) digit
      ∙ ap (λ w. w ⊕ (bit_value K x a ⊕ bit_value K x b)) (add_mul K (bit_coefficient K d) (bit_coefficient K c) p)
      ∙ add_swap K (bit_coefficient K d ⊗ p) (bit_coefficient K c ⊗ p) (bit_value K x a) (bit_value K x b)
      ∙ ap (λ n. bit_coefficient K d ⊗ p ⊕ bit_value K x a ⊕ (bit_coefficient K c ⊗ power K x n ⊕ bit_value K x b)) long

  -- the value of a sum is the sum of the values
  pub bit_value-sum : (x : F) (a b : List Bool) → length a ≡ length b → bit_value K x (sum_of_words a b) ≡ bit_value K x a ⊕ bit_value K x b
  unfolding bit_value sum_of_words
  bit_value-sum x [] [] long = sym (add_zero K 𝟘)
  bit_value-sum x (true ∷ a) (true ∷ b) long = sum_first_places x a b false true true (omega arith) (sym (add_self K 𝟙)) (bit_value-sum x a b (omega arith))
  bit_value-sum x (true ∷ a) (false ∷ b) long = sum_first_places x a b true true false (omega arith) (sym (add_zero K 𝟙)) (bit_value-sum x a b (omega arith))
  bit_value-sum x (false ∷ a) (true ∷ b) long = sum_first_places x a b true false true (omega arith) (sym (zero_add K 𝟙)) (bit_value-sum x a b (omega arith))
  bit_value-sum x (false ∷ a) (false ∷ b) long = sum_first_places x a b false false false (omega arith) (sym (add_zero K 𝟘)) (bit_value-sum x a b (omega arith))
  bit_value-sum x a b long = absurd (omega arith)

  -- in characteristic 2 the square of a sum is the sum of the squares
  square_of_sum : (a b : F) → (a ⊕ b) ⊗ (a ⊕ b) ≡ a ⊗ a ⊕ b ⊗ b
  square_of_sum a b =
      add_mul K a b (a ⊕ b)
      ∙ ap₂ ◌⊕◌ (mul_add K a a b) (mul_add K b a b ∙ ap (λ w. w ⊕ b ⊗ b) (mul_comm K b a))
      ∙ add_assoc K (a ⊗ a) (a ⊗ b) (a ⊗ b ⊕ b ⊗ b)
      ∙ ap (λ w. a ⊗ a ⊕ w) (add_twice K (a ⊗ b) (b ⊗ b))

  -- a bit is its own square
  coefficient_square : (bit : Bool) → bit_coefficient K bit ⊗ bit_coefficient K bit ≡ bit_coefficient K bit
  coefficient_square true = mul_one K 𝟙
  coefficient_square false = zero_mul K 𝟘

  -- the value at a square is the square of the value
  pub bit_value-square : (x : F) (bits : List Bool) → bit_value K (x ⊗ x) bits ≡ bit_value K x bits ⊗ bit_value K x bits
  unfolding bit_value
  bit_value-square x [] = sym (zero_mul K 𝟘)
  bit_value-square x (bit ∷ bits) =
      let p = power K x (length bits) in
      ap₂ (λ q v. bit_coefficient K bit ⊗ q ⊕ v) (power_of_mul K x x (length bits)) (bit_value-square x bits)
      ∙ ap (λ q. q ⊕ bit_value K x bits ⊗ bit_value K x bits) (term (bit_coefficient K bit) p (coefficient_square bit))
      ∙ sym (square_of_sum (bit_coefficient K bit ⊗ p) (bit_value K x bits))
    where
      term : (d p : F) → d ⊗ d ≡ d → d ⊗ (p ⊗ p) ≡ d ⊗ p ⊗ (d ⊗ p)
      term d p e = ap (λ w. w ⊗ (p ⊗ p)) (sym e) ∙ apart d p
        where
          apart : (d p : F) → d ⊗ d ⊗ (p ⊗ p) ≡ d ⊗ p ⊗ (d ⊗ p)
          apart d p = simp (mul_assoc K, mul_left_comm K)

  -- the value as a sum over the positions
  pub bit_value-places : (x : F) (bits : List Bool)
      → sum_below K (length bits) (λ j. coefficient K (map (bit_coefficient K) bits) j ⊗ power K x (length bits - 1 - j)) ≡ bit_value K x bits
  unfolding bit_value
  bit_value-places x [] = sum-none K (λ j. coefficient K [] j ⊗ power K x (0 - 1 - j))
  bit_value-places x (bit ∷ bits) =
      let n = length bits in
      sum_first K n (λ j. coefficient K (map (bit_coefficient K) (bit ∷ bits)) j ⊗ power K x (suc n - 1 - j))
      ∙ ap₂ (λ m w. bit_coefficient K bit ⊗ power K x m ⊕ w) (whole n)
      (
      sum_same K n
      (λ j. coefficient K (map (bit_coefficient K) bits) j ⊗ power K x (suc n - 1 - suc j))
      (λ j. coefficient K (map (bit_coefficient K) bits) j ⊗ power K x (n - 1 - j))
      (λ j h. ap (λ m. coefficient K (map (bit_coefficient K) bits) j ⊗ power K x m) (less n j))
      ∙ bit_value-places x bits
      )
    where
      whole : (n : ℕ) → suc n - 1 - 0 ≡ n
      whole n = omega arith

      less : (n i : ℕ) → suc n - 1 - suc i ≡ n - 1 - i
      less n i = omega arith

  -- if the value is zero at as many different elements as there are bits, each bit is 0
  pub no_coefficient : (bits : List Bool) (z : ℕ → F) → AreApart (length bits) z → ((j : ℕ) → j < length bits → bit_value K (z j) bits ≡ 𝟘) → field_of bits ≡ 0
  no_coefficient bits z apart zeros =
      let n = length bits in
      let f : ℕ → F = λ i. coefficient K (map (bit_coefficient K) bits) (n - 1 - i) in
      let few = few_zeros K n n f z (omega arith) apart (λ j h. sym (reversed (z j)) ∙ bit_value-places (z j) bits ∙ zeros j h) in
      all_zero bits (λ j h. ap (coefficient K (map (bit_coefficient K) bits)) (back n j h) ∙ few (n - 1 - j) (omega arith))
    where
      back : (n j : ℕ) → j < n → j ≡ n - 1 - (n - 1 - j)
      back n j h = omega arith

      reversed : (x : F)
          → sum_below K (length bits) (λ j. coefficient K (map (bit_coefficient K) bits) j ⊗ power K x (length bits - 1 - j))
          ≡ value_at K (length bits) (λ i. coefficient K (map (bit_coefficient K) bits) (length bits - 1 - i)) x
      reversed x =
          sym (sum_reverse K (length bits) (λ j. coefficient K (map (bit_coefficient K) bits) j ⊗ power K x (length bits - 1 - j)))
          ∙ sum_same K (length bits)
          (λ i. coefficient K (map (bit_coefficient K) bits) (length bits - 1 - i) ⊗ power K x (length bits - 1 - (length bits - 1 - i)))
          (λ i. coefficient K (map (bit_coefficient K) bits) (length bits - 1 - i) ⊗ power K x i)
          (λ i h. ap (λ m. coefficient K (map (bit_coefficient K) bits) (length bits - 1 - i) ⊗ power K x m) (sym (back (length bits) i h)))

      all_zero : (bits : List Bool) → ((j : ℕ) → j < length bits → coefficient K (map (bit_coefficient K) bits) j ≡ 𝟘) → field_of bits ≡ 0
      all_zero [] none = field_of-nil
      all_zero (true ∷ bits) none = absurd (K.laws.one_ne_zero (none 0 (omega arith)))
      all_zero (false ∷ bits) none = omega (arith, field_of-cons false bits, all_zero bits (λ j h. none (suc j) (omega arith)))
