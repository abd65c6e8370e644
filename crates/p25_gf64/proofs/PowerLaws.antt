-- Powers in a field. By induction on the exponent.
use Rattle.std.proofs.{Common.{◌≡◌, ◌≢◌, ℕ, zero, suc, ◌+◌, ◌-◌, ◌*◌, ◌/◌, ◌%◌, ◌<◌, refl, sym, ap, ◌∙◌, inl, inr, arith}, lemmas.Bool.{cases_order}}
use Rattle.p25_gf64.specs.Field.{Field, power}
use Rattle.p25_gf64.proofs.FieldLaws.{mul_assoc, mul_left_comm, mul_one, one_mul, mul_cancel, mul_ne_zero}

module _ {F : Type 0} (K : Field F) where
  open K use {zero as 𝟘, one as 𝟙, add as ◌⊕◌, mul as ◌⊗◌}

  infixl 65 ◌⊕◌
  infixl 70 ◌⊗◌
  pub power-zero : (x : F) → power K x 0 ≡ 𝟙
  unfolding power
  power-zero x = refl

  pub power-suc : (x : F) (n : ℕ) → power K x (suc n) ≡ x ⊗ power K x n
  unfolding power
  power-suc x n = refl

  pub power-one : (x : F) → power K x 1 ≡ x
  unfolding power
  power-one x = mul_one K x

  pub power-add : (x : F) (m n : ℕ) → power K x (m + n) ≡ power K x m ⊗ power K x n
  unfolding power
  power-add x zero n = let e : 0 + n ≡ n = omega arith in rw e (sym (one_mul K (power K x n)))
  power-add x (suc m) n =
      let e : suc m + n ≡ suc (m + n) = omega arith in
      rw e (ap (λ w. x ⊗ w) (power-add x m n) ∙ sym (mul_assoc K x (power K x m) (power K x n)))

  pub power-mul : (x : F) (m n : ℕ) → power K x (m * n) ≡ power K (power K x m) n
  unfolding power
  power-mul x m zero = let e : m * 0 ≡ 0 = omega arith in rw e refl
  power-mul x m (suc n) =
      let e : m * suc n ≡ m + m * n = omega arith in
      rw e (power-add x m (m * n) ∙ ap (λ w. power K x m ⊗ w) (power-mul x m n))

  pub power_of_one : (n : ℕ) → power K 𝟙 n ≡ 𝟙
  unfolding power
  power_of_one zero = refl
  power_of_one (suc n) = one_mul K (power K 𝟙 n) ∙ power_of_one n

  pub power_of_mul : (x y : F) (n : ℕ) → power K (x ⊗ y) n ≡ power K x n ⊗ power K y n
  unfolding power
  power_of_mul x y zero = sym (mul_one K 𝟙)
  power_of_mul x y (suc n) =
      ap (λ w. x ⊗ y ⊗ w) (power_of_mul x y n) ∙ mul_swap x y (power K x n) (power K y n)
    where
      mul_swap : (p q r s : F) → p ⊗ q ⊗ (r ⊗ s) ≡ p ⊗ r ⊗ (q ⊗ s)
      mul_swap p q r s = simp (mul_assoc K, mul_left_comm K)

  pub power_ne_zero : (x : F) (n : ℕ) → x ≢ 𝟘 → power K x n ≢ 𝟘
  unfolding power
  power_ne_zero x zero apart = K.laws.one_ne_zero
  power_ne_zero x (suc n) apart = mul_ne_zero K x (power K x n) apart (power_ne_zero x n apart)

  -- if the power p is one, exponents count modulo p
  pub power-mod : (x : F) (p n : ℕ) → power K x p ≡ 𝟙 → 0 < p → power K x n ≡ power K x (n % p)
  power-mod x p n e h =
      let split : n ≡ p * (n / p) + n % p = omega arith in
      ap (power K x) split
      ∙ power-add x (p * (n / p)) (n % p)
      ∙ ap (λ w. w ⊗ power K x (n % p)) (power-mul x p (n / p) ∙ ap (λ w. power K w (n / p)) e ∙ power_of_one (n / p))
      ∙ one_mul K (power K x (n % p))

  -- if no power between 0 and p is one, exponents below p with equal powers are equal
  pub same_exponent : (x : F) (p : ℕ) → x ≢ 𝟘 → ((n : ℕ) → 0 < n → n < p → power K x n ≢ 𝟙) → (i j : ℕ) → i < p → j < p → power K x i ≡ power K x j → i ≡ j
  same_exponent x p apart order i j hi hj e =
      elim (cases_order i j) [ inl same ↦ same | inr (inl less) ↦ absurd (below i j less hj e) | inr (inr more) ↦ absurd (below j i more hi (sym e)) ]
    where
      below : (i j : ℕ) → i < j → j < p → power K x i ≢ power K x j
      below i j less hj e =
          let split : j ≡ i + (j - i) = omega arith in
          order (j - i) (omega arith) (omega arith)
          (sym (mul_cancel K (power K x i) 𝟙 (power K x (j - i)) (power_ne_zero x i apart) (mul_one K (power K x i) ∙ e ∙ ap (power K x) split ∙ power-add x i (j - i))))
