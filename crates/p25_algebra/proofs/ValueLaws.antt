-- Values of polynomials by their coefficients, by Horner's rule, and the number of zeros: the quotient at one zero has the others.
use Rattle.std.proofs.Common.{◌≡◌, ◌≢◌, ℕ, zero, suc, ◌<◌, ◌≤◌, sym, ap, ap₂, ◌∙◌, arith}
use Rattle.p25_gf64.specs.Field.{Field, power}
use Rattle.p25_gf64.proofs.FieldLaws.{add_comm, add_assoc, add_left_comm, add_zero, zero_add, add_twice, same_from_sum, mul_comm, mul_assoc, mul_left_comm, mul_one, mul_add, add_mul, mul_zero, zero_mul, other_zero}
use Rattle.p25_gf64.proofs.PowerLaws.{power-zero, power-suc}
use Rattle.p25_algebra.specs.{Sums.{AreApart}, Series.{value_at}}
use Rattle.p25_algebra.proofs.SumLaws.{sum-none, sum_same, sum_of_zeros, sum-mul, sum_first}

module _ {F : Type 0} (K : Field F) where
  open K use {zero as 𝟘, one as 𝟙, add as ◌⊕◌, mul as ◌⊗◌}

  infixl 65 ◌⊕◌
  infixl 70 ◌⊗◌
  -- the value of no coefficients
  pub value-none : (f : ℕ → F) (x : F) → value_at K 0 f x ≡ 𝟘
  value-none f x = sum-none K _

  -- the value by the value of the other coefficients, as Horner's rule has it
  pub value_first : (n : ℕ) (f : ℕ → F) (x : F) → value_at K (suc n) f x ≡ f 0 ⊕ x ⊗ value_at K n (λ i. f (suc i)) x
  value_first n f x =
      rw (
        sum_first K n _,
        power-zero K x,
        mul_one K (f 0),
        sum_same K n _ _ (λ i h. ap (λ w. f (suc i) ⊗ w) (power-suc K x i) ∙ mul_left_comm K (f (suc i)) x (power K x i)),
        sum-mul K n x (λ i. f (suc i) ⊗ power K x i),
      )

  -- values of equal coefficients are equal
  pub value_same : (n : ℕ) (f g : ℕ → F) (x : F) → ((i : ℕ) → i < n → f i ≡ g i) → value_at K n f x ≡ value_at K n g x
  value_same n f g x e = sum_same K n _ _ (λ i h. rw (e i h))

  -- the value of coefficients that are zero
  pub value_of_zeros : (n : ℕ) (f : ℕ → F) (x : F) → ((i : ℕ) → i < n → f i ≡ 𝟘) → value_at K n f x ≡ 𝟘
  value_of_zeros n f x e = sum_of_zeros K n _ (λ i h. cc (e i h, zero_mul K (power K x i)))

  -- ---- few zeros

  -- g is the quotient of f, which has n coefficients after the first, by x - z
  record IsQuotientAt (n : ℕ) (f g : ℕ → F) (z : F) : Type 0 where
    value : (x : F) → value_at K (suc n) f x ≡ value_at K n g x ⊗ (x ⊕ z) ⊕ value_at K (suc n) f z
    zeros : ((i : ℕ) → i < n → g i ≡ 𝟘) → (i : ℕ) → i < n → f (suc i) ≡ 𝟘

  led_by : F → (ℕ → F) → ℕ → F
  led_by first rest zero = first
  led_by first rest (suc i) = rest i

  quotient_step : (x z f₀ g₀ v : F) → (g₀ ⊕ x ⊗ v) ⊗ (x ⊕ z) ⊕ (f₀ ⊕ z ⊗ g₀) ≡ f₀ ⊕ x ⊗ (v ⊗ (x ⊕ z) ⊕ g₀)
  quotient_step x z f₀ g₀ v =
      simp (add_mul K, mul_add K, mul_assoc K, mul_comm K, add_twice K, add_assoc K, add_comm K, add_left_comm K)

  quotient_none : (f : ℕ → F) (z x : F) → value_at K 1 f x ≡ value_at K 0 f x ⊗ (x ⊕ z) ⊕ value_at K 1 f z
  quotient_none f z x =
      simp (constant, zero_add, zero_mul, value-none)
    where
      constant : (y : F) → value_at K 1 f y ≡ f 0
      constant y =
          cc (value_first 0 f y, value-none _ y, mul_zero K y, add_zero K (f 0))

  quotient_more : (n : ℕ) (f h : ℕ → F) (z : F) → IsQuotientAt n (λ i. f (suc i)) h z → IsQuotientAt (suc n) f (led_by (value_at K (suc n) (λ i. f (suc i)) z) h) z
  unfolding led_by
  quotient_more n f h z q = record {
    value = λ x.
        cc (value_first (suc n) f x, q.value x, quotient_step x z (f 0) _ (value_at K n h x), ap₂ (λ a b. a ⊗ (x ⊕ z) ⊕ b) (sym (value_first n (led_by _ h) x)) (sym (value_first (suc n) f z)));
    zeros = zeros;
  }
    where
      first : value_at K (suc n) (λ i. f (suc i)) z ≡ 𝟘 → ((i : ℕ) → i < n → h i ≡ 𝟘) → f 1 ≡ 𝟘
      first none rest =
          cc (add_zero K (f 1), value_of_zeros n _ z (q.zeros rest), mul_zero K z, value_first n _ z, none)

      zeros : ((i : ℕ) → i < suc n → led_by (value_at K (suc n) (λ i. f (suc i)) z) h i ≡ 𝟘) → (i : ℕ) → i < suc n → f (suc i) ≡ 𝟘
      zeros e zero low = first (e 0 (omega arith)) (λ i h. e (suc i) (omega arith))
      zeros e (suc i) low = q.zeros (λ i h. e (suc i) (omega arith)) i (omega arith)

  quotient_at : (n : ℕ) (f : ℕ → F) (z : F) → (g : ℕ → F) × IsQuotientAt n f g z
  quotient_at zero f z = (f, record { value = quotient_none f z; zeros = λ e i h. absurd (omega arith) })
  quotient_at (suc n) f z =
      let (h, q) = quotient_at n _ z in
      (led_by _ h, quotient_more n f h z q)

  -- n coefficients are all zero if the polynomial has n different zeros
  pub few_zeros : (n m : ℕ) (f z : ℕ → F) → n ≤ m → AreApart m z → ((j : ℕ) → j < m → value_at K n f (z j) ≡ 𝟘) → (i : ℕ) → i < n → f i ≡ 𝟘
  few_zeros (suc n) (suc m) f z le apart zeros i h =
      let (g, q) = quotient_at n f (z m) in
      let others = few_zeros n m g z (omega arith) (record { apart = λ i k hi hk e. apart.apart i k (omega arith) (omega arith) e }) (zeros_left g q) in
      all_zero (q.zeros others) i h
    where
      zeros_left : (g : ℕ → F) → IsQuotientAt n f g (z m) → (j : ℕ) → j < m → value_at K n g (z j) ≡ 𝟘
      zeros_left g q j low =
          other_zero K (z j ⊕ z m) _ different
          (cc (mul_comm K (z j ⊕ z m) _, add_zero K (value_at K n g (z j) ⊗ (z j ⊕ z m)), zeros m (omega arith), q.value (z j), zeros j (omega arith)))
        where
          different : z j ⊕ z m ≢ 𝟘
          different e = let same : j ≡ m = apart.apart j m (omega arith) (omega arith) (same_from_sum K (z j) (z m) e) in omega arith

      all_zero : ((i : ℕ) → i < n → f (suc i) ≡ 𝟘) → (i : ℕ) → i < suc n → f i ≡ 𝟘
      all_zero rest zero low =
          cc (add_zero K (f 0), value_of_zeros n _ (z m) rest, mul_zero K (z m), value_first n f (z m), zeros m (omega arith))
      all_zero rest (suc i) low = rest i (omega arith)
  few_zeros n m f z le apart zeros i h = absurd (omega arith)
