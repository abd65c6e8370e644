-- Sums of products of two lists, after one of them changes.
use Rattle.std.proofs.{Common.{◌≡◌, ◌≢◌, ℕ, suc, ◌+◌, ◌<◌, sym, ap, ◌∙◌, inl, inr, arith}, lemmas.Bool.{cases_eq}}
use Rattle.p25_gf64.specs.Field.{Field}
use Rattle.p25_gf64.proofs.FieldLaws.{add_self, add_comm, add_twice, mul_add, mul_assoc, mul_left_comm, mul_zero, zero_mul, add_mul, mul_inverse, mul_one}
use Rattle.p25_algebra.specs.Sums.{dot}
use Rattle.p25_algebra.proofs.SumLaws.{sum-suc, sum_same, sum_of_zeros, sum-add, sum-mul, sum_of_one}

module _ {F : Type 0} (K : Field F) where
  open K use {zero as 𝟘, one as 𝟙, add as ◌⊕◌, mul as ◌⊗◌, inverse}

  infixl 65 ◌⊕◌
  infixl 70 ◌⊗◌
  -- one more unknown
  pub dot-next : (n : ℕ) (a x : ℕ → F) → dot K (n + 1) a x ≡ dot K n a x ⊕ a n ⊗ x n
  dot-next n a x = simp (more, sum-suc)
    where
      more : n + 1 ≡ suc n
      more = omega arith

  -- a row of zeros gives zero
  pub dot_of_zeros : (n : ℕ) (a x : ℕ → F) → ((k : ℕ) → k < n → a k ≡ 𝟘) → dot K n a x ≡ 𝟘
  dot_of_zeros n a x none = sum_of_zeros K n _ (λ k h. ap (λ w. w ⊗ x k) (none k h) ∙ zero_mul K (x k))

  -- equal rows give equal sums
  pub dot_same : (n : ℕ) (a b x : ℕ → F) → ((k : ℕ) → k < n → a k ≡ b k) → dot K n a x ≡ dot K n b x
  dot_same n a b x same = sum_same K n _ _ (λ k h. ap (λ w. w ⊗ x k) (same k h))

  -- a row with a multiple of another
  pub dot_multiple : (n : ℕ) (a b x : ℕ → F) (c : F) → dot K n (λ k. a k ⊕ c ⊗ b k) x ≡ dot K n a x ⊕ c ⊗ dot K n b x
  dot_multiple n a b x c =
      cc (
        sum_same K n _ _
            (λ k h. add_mul K (a k) _ (x k) ∙ ap (λ w. a k ⊗ x k ⊕ w) (mul_assoc K c (b k) (x k))),
        sum-add K n (λ k. a k ⊗ x k) (λ k. c ⊗ (b k ⊗ x k)),
        sum-mul K n c _,
      )

  -- an unknown that the row doesn't have
  pub dot_elsewhere : (n : ℕ) (a x y : ℕ → F) (c : ℕ) → a c ≡ 𝟘 → ((k : ℕ) → k ≢ c → y k ≡ x k) → dot K n a y ≡ dot K n a x
  dot_elsewhere n a x y c none same =
      sum_same K n (λ k. a k ⊗ y k) (λ k. a k ⊗ x k) each
    where
      at : a c ⊗ y c ≡ a c ⊗ x c
      at = ap (λ w. w ⊗ y c) none ∙ zero_mul K (y c) ∙ sym (ap (λ w. w ⊗ x c) none ∙ zero_mul K (x c))

      each : (k : ℕ) → k < n → a k ⊗ y k ≡ a k ⊗ x k
      each k h = elim (cases_eq k c) [ inl here ↦ rw here at | inr apart ↦ ap (λ w. a k ⊗ w) (same k apart) ]

  -- an unknown that gains
  pub dot_gained : (n : ℕ) (a x y : ℕ → F) (c : ℕ) (d : F) → c < n → y c ≡ x c ⊕ d → ((k : ℕ) → k ≢ c → y k ≡ x k) → dot K n a y ≡ dot K n a x ⊕ a c ⊗ d
  dot_gained n a x y c d inside gain same =
      cc (
        sum_same K n _ _ (λ k h. ap (λ w. a k ⊗ w) (sym (add_twice K (x k) (y k))) ∙ mul_add K (a k) (x k) (gains k)),
        sum-add K n (λ k. a k ⊗ x k) (λ k. a k ⊗ gains k),
        sum_of_one K n c (λ k. a k ⊗ gains k) inside (λ k h apart. ap (λ w. a k ⊗ w) (simp (same, add_self)) ∙ mul_zero K (a k)),
        gain,
        add_twice K (x c) d,
      )
    where
      gains : ℕ → F
      gains k = x k ⊕ y k

  -- the missing value, divided by the cell, corrects the sum
  pub short_made_up : (s r p : F) → p ≢ 𝟘 → s ⊕ p ⊗ ((r ⊕ s) ⊗ inverse p) ≡ r
  short_made_up s r p live =
      ap (λ w. s ⊕ w)
      (rw (mul_left_comm, mul_inverse, mul_one, add_comm))
      ∙ add_twice K s r
