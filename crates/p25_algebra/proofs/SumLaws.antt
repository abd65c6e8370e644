-- Finite sums in a field. By induction on the number of terms.
use Rattle.std.proofs.{Common.{◌≡◌, ◌≢◌, ℕ, zero, suc, ◌-◌, ◌<◌, ◌≤◌, refl, sym, ap, ap₂, ◌∙◌, inl, inr, arith}, lemmas.Bool.{cases_eq}}
use Rattle.p25_gf64.specs.Field.{Field}
use Rattle.p25_gf64.proofs.FieldLaws.{add_comm, add_assoc, add_zero, zero_add, add_swap, mul_add, mul_zero}
use Rattle.p25_algebra.specs.Sums.{sum_below}

module _ {F : Type 0} (K : Field F) where
  open K use {zero as 𝟘, add as ◌⊕◌, mul as ◌⊗◌}

  infixl 65 ◌⊕◌
  infixl 70 ◌⊗◌
  pub sum-none : (t : ℕ → F) → sum_below K 0 t ≡ 𝟘
  unfolding sum_below
  sum-none t = refl

  pub sum-suc : (n : ℕ) (t : ℕ → F) → sum_below K (suc n) t ≡ sum_below K n t ⊕ t n
  unfolding sum_below
  sum-suc n t = refl

  -- sums of equal terms are equal
  pub sum_same : (n : ℕ) (s t : ℕ → F) → ((i : ℕ) → i < n → s i ≡ t i) → sum_below K n s ≡ sum_below K n t
  unfolding sum_below
  sum_same zero s t e = refl
  sum_same (suc n) s t e = cc (sum_same n s t (λ i h. e i (omega arith)), e n (omega arith))

  pub sum_of_zeros : (n : ℕ) (t : ℕ → F) → ((i : ℕ) → i < n → t i ≡ 𝟘) → sum_below K n t ≡ 𝟘
  unfolding sum_below
  sum_of_zeros zero t e = refl
  sum_of_zeros (suc n) t e = cc (sum_of_zeros n t (λ i h. e i (omega arith)), e n (omega arith), add_zero K 𝟘)

  pub sum-add : (n : ℕ) (s t : ℕ → F) → sum_below K n (λ i. s i ⊕ t i) ≡ sum_below K n s ⊕ sum_below K n t
  unfolding sum_below
  sum-add zero s t = sym (add_zero K 𝟘)
  sum-add (suc n) s t = cc (sum-add n s t, add_swap K _ _ _ _)

  pub sum-mul : (n : ℕ) (c : F) (t : ℕ → F) → sum_below K n (λ i. c ⊗ t i) ≡ c ⊗ sum_below K n t
  unfolding sum_below
  sum-mul zero c t = sym (mul_zero K c)
  sum-mul (suc n) c t = cc (sum-mul n c t, mul_add K c _ _)

  -- terms that are zero past n add nothing
  pub sum_longer : (n m : ℕ) (t : ℕ → F) → n ≤ m → ((i : ℕ) → n ≤ i → i < m → t i ≡ 𝟘) → sum_below K m t ≡ sum_below K n t
  unfolding sum_below
  sum_longer n zero t h e = let same : n ≡ 0 = omega arith in rw same refl
  sum_longer n (suc m) t h e =
      elim (cases_eq n (suc m)) [
        | inl same ↦ rw same refl
        | inr apart ↦ cc (sum_longer n m t (omega arith) (λ i low high. e i low (omega arith)), e m (omega arith) (omega arith), add_zero K (sum_below K n t))
      ]

  -- a sum with one term that may not be zero is that term
  pub sum_of_one : (n j : ℕ) (t : ℕ → F) → j < n → ((i : ℕ) → i < n → i ≢ j → t i ≡ 𝟘) → sum_below K n t ≡ t j
  sum_of_one n j t h e =
      rw (sum_longer _ n t h (λ i low high. e i high (omega arith)), sum-suc j t, sum_of_zeros j t (λ i low. e i (omega arith) (omega arith)), zero_add K (t j))

  -- the first term apart
  pub sum_first : (n : ℕ) (t : ℕ → F) → sum_below K (suc n) t ≡ t 0 ⊕ sum_below K n (λ i. t (suc i))
  unfolding sum_below
  sum_first zero t = simp (zero_add, add_zero)
  sum_first (suc n) t = cc (sum_first n t, add_assoc K _ _ _)

  -- the order of two sums can be exchanged
  pub sum_exchange : (n m : ℕ) (t : ℕ → ℕ → F) → sum_below K n (λ i. sum_below K m (λ j. t i j)) ≡ sum_below K m (λ j. sum_below K n (λ i. t i j))
  unfolding sum_below
  sum_exchange zero m t = sym (sum_of_zeros m _ (λ j h. refl))
  sum_exchange (suc n) m t =
      cc (sum_exchange n m t, sum-add m (λ j. sum_below K n (λ i. t i j)) (λ j. t n j))

  -- the last terms first
  pub sum_reverse : (n : ℕ) (t : ℕ → F) → sum_below K n (λ i. t (n - 1 - i)) ≡ sum_below K n t
  unfolding sum_below
  sum_reverse zero t = refl
  sum_reverse (suc n) t =
      sum_first n _
      ∙ ap₂ ◌⊕◌ (ap t (whole n)) (sum_same n _ _ (λ i h. ap t (less n i)) ∙ sum_reverse n t)
      ∙ add_comm K _ _
    where
      whole : (n : ℕ) → suc n - 1 - 0 ≡ n
      whole n = omega arith

      less : (n i : ℕ) → suc n - 1 - suc i ≡ n - 1 - i
      less n i = omega arith
