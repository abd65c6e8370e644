-- Forney's formula: the factors of power sums by a polynomial that vanishes at the inverses of the elements with factors other than zero. A coefficient of the
-- quotient's product with the sums is computed twice: as a sum over the elements, of which one term is left, and from the product of polynomial and sums.
use Rattle.std.proofs.Common.{◌≡◌, ◌≢◌, ℕ, zero, suc, ◌+◌, ◌-◌, ◌<◌, ◌≤◌, sym, ap, ap₂, ◌∙◌, inl, inr, arith}
use Rattle.p25_gf64.specs.Field.{Field, power}
use Rattle.p25_gf64.proofs.FieldLaws.{add_comm, add_zero, zero_add, add_twice, same_from_sum, mul_comm, mul_assoc, mul_left_comm, mul_one, one_mul, mul_add, mul_zero, zero_mul, mul_inverse, mul_cancel, other_zero}
use Rattle.p25_gf64.proofs.PowerLaws.{power-zero, power-suc, power-add, power_of_mul, power_of_one, power_ne_zero}
use Rattle.p25_algebra.specs.{Sums.{sum_below, power_sum, AreApart}, Series.{value_at, product_at, shifted, IsShort, rest_at, slope_at}}
use Rattle.p25_algebra.proofs.{SumLaws.{sum-none, sum-suc, sum_same, sum-mul, sum_exchange, sum_of_one}, ProductLaws.{product_same_left, product-add_left, product-mul_left, product-shifted}}
use Rattle.p25_algebra.proofs.{ProductValueLaws.{value_longer}, QuotientLaws.{shifted-first, shifted-next, short_rest, factored, value-factored}}

module _ {F : Type 0} (K : Field F) where
  open K use {zero as 𝟘, one as 𝟙, add as ◌⊕◌, mul as ◌⊗◌, inverse}

  infixl 65 ◌⊕◌
  infixl 70 ◌⊗◌
  -- the product with a quotient
  pub factored_product : (f q s : ℕ → F) (z : F) → ((k : ℕ) → f k ≡ z ⊗ q k ⊕ shifted K 1 q k) → (i : ℕ) → product_at K f s i ≡ z ⊗ product_at K q s i ⊕ shifted K 1 (product_at K q s) i
  factored_product f q s z whole i =
      rw (product_same_left K f (λ k. z ⊗ q k ⊕ shifted K 1 q k) s whole i, product-add_left K (λ k. z ⊗ q k) (shifted K 1 q) s i, product-mul_left K z q s i, product-shifted K 1 q s i)

  -- a coefficient of the quotient by x + z, by the first coefficients
  pub front_sum : (x z : F) (w e : ℕ → F) → x ⊗ z ≡ 𝟙 → ((i : ℕ) → e i ≡ z ⊗ w i ⊕ shifted K 1 w i) → (i : ℕ) → w i ≡ power K x (suc i) ⊗ value_at K (suc i) e z
  front_sum x z w e one whole zero =
      cc (one_mul K (w 0), one, mul_assoc K x z (w 0), add_zero K (z ⊗ w 0), shifted-first K w, whole 0, mul_one K x, power-zero K x, power-suc K x 0, constant)
    where
      constant : value_at K 1 e z ≡ e 0
      constant =
          sum-suc K 0 _
          ∙ ap₂ ◌⊕◌ (sum-none K _) (cc (power-zero K z, mul_one K (e 0)))
          ∙ zero_add K (e 0)
  front_sum x z w e one whole (suc i) =
      cc (
        one_mul K (w (suc i)),
        one,
        mul_assoc K x z (w (suc i)),
        add_twice K (w i) (z ⊗ w (suc i)),
        add_comm K (w i) _,
        shifted-next K w i,
        whole (suc i),
        mul_add K x (w i) (e (suc i)),
        front_sum x z w e one whole i,
        mul_assoc K x (power K x (suc i)) (value_at K (suc i) e z),
        power-suc K x (suc i),
        one_mul K (e (suc i)),
        power_of_one K (suc i),
        power_of_mul K x z (suc i),
        last (power K x (suc i)) (power K z (suc i)) (e (suc i)),
        mul_add K (power K x (suc (suc i))) (value_at K (suc i) e z) (e (suc i) ⊗ power K z (suc i)),
        sum-suc K (suc i) _,
      )
    where
      last : (p q c : F) → x ⊗ (p ⊗ q ⊗ c) ≡ x ⊗ p ⊗ (c ⊗ q)
      last p q c = simp (mul_assoc K, mul_comm K)

  lower_power : (x y : F) (m k : ℕ) → x ⊗ y ≡ 𝟙 → k ≤ m → power K x (m - k + 1) ≡ power K x (m + 1) ⊗ power K y k
  lower_power x y m k one low =
      let split : m + 1 ≡ (m - k + 1) + k = omega arith in
      cc (mul_one K (power K x _), power_of_one K k, one, power_of_mul K x y k, mul_assoc K (power K x (m - k + 1)) (power K x k) (power K y k), power-add K x (m - k + 1) k, split)

  -- the product of a polynomial with power sums, as a sum over the elements
  pub product_sums : (n m : ℕ) (x v q s : ℕ → F) → ((j : ℕ) → j < n → x j ⊗ inverse (x j) ≡ 𝟙) → ((i : ℕ) → i ≤ m → s i ≡ power_sum K n x v (i + 1))
      → product_at K q s m ≡ sum_below K n (λ j. v j ⊗ power K (x j) (m + 1) ⊗ value_at K (suc m) q (inverse (x j)))
  product_sums n m x v q s live sums =
      sum_same K (suc m) (λ i. q i ⊗ s (m - i)) _
      (λ i low. ap (λ w. q i ⊗ w) (sums (m - i) (omega arith)) ∙ sym (sum-mul K n (q i) _)
      ∙ sum_same K n _ _
      (λ j inside. cc (lower_power (x j) (inverse (x j)) m i (live j inside) (omega arith), regroup (q i) (v j) (power K (x j) (m + 1)) (power K (inverse (x j)) i))))
      ∙ sum_exchange K (suc m) n _
      ∙ sum_same K n _ _
      (λ j inside. sum-mul K (suc m) (v j ⊗ power K (x j) (m + 1)) _)
    where
      regroup : (a b c e : F) → a ⊗ (b ⊗ (c ⊗ e)) ≡ b ⊗ c ⊗ (a ⊗ e)
      regroup a b c e = simp (mul_assoc K, mul_left_comm K)

  forney_next : (n m : ℕ) (x v f s : ℕ → F) → AreApart n x → ((j : ℕ) → j < n → x j ≢ 𝟘) → IsShort K (suc (suc m)) f → ((i : ℕ) → i ≤ m → s i ≡ power_sum K n x v (i + 1))
      → ((l : ℕ) → l < n → v l ≢ 𝟘 → value_at K (suc (suc m)) f (inverse (x l)) ≡ 𝟘) → (j : ℕ) → j < n → value_at K (suc (suc m)) f (inverse (x j)) ≡ 𝟘
      → v j ⊗ slope_at K (suc (suc m)) f (inverse (x j)) ≡ value_at K (suc m) (product_at K f s) (inverse (x j))
  forney_next n m x v f s apart live short sums zeros j inside here =
      mul_cancel K _ _ _ (power_ne_zero K (x j) (m + 1) (live j inside))
      (
      cc (
        value_longer K (suc m) (suc (suc m)) q z (omega arith) short_q,
        regroup _ (v j) (value_at K (suc m) q z),
        sum_of_one K n j _ inside others,
        product_sums n m x v q s one sums,
        front_sum (x j) z (product_at K q s) (product_at K f s) (one j inside) (factored_product f q s z whole) m,
        next,
      )
      )
    where
      z : F
      z = inverse (x j)

      q : ℕ → F
      q = rest_at K (suc (suc m)) f z

      next : suc m ≡ m + 1
      next = omega arith

      less : suc (suc m) - 1 ≡ suc m
      less = omega arith

      short_q : IsShort K (suc m) q
      short_q = rw less at (short_rest K (suc (suc m)) f z)

      one : (l : ℕ) → l < n → x l ⊗ inverse (x l) ≡ 𝟙
      one l low = mul_inverse K (x l) (live l low)

      whole : (k : ℕ) → f k ≡ z ⊗ q k ⊕ shifted K 1 q k
      whole = factored K (suc (suc m)) f z (omega arith) short here

      regroup : (a b c : F) → a ⊗ (b ⊗ c) ≡ b ⊗ a ⊗ c
      regroup a b c = simp (mul_assoc K, mul_left_comm K)

      other_element : (l : ℕ) → l < n → l ≢ j → z ⊕ inverse (x l) ≢ 𝟘
      other_element l low other same =
          other (apart.apart l j low inside (
          cc (mul_one K (x l), one j inside, mul_left_comm K (x l) (x j) z, same_from_sum K z (inverse (x l)) same, one l low, mul_one K (x j))))

      others : (l : ℕ) → l < n → l ≢ j → v l ⊗ power K (x l) (m + 1) ⊗ value_at K (suc m) q (inverse (x l)) ≡ 𝟘
      others l low other =
          elim (K.is_zero (v l)) [
            | inl none ↦
                cc (none, zero_mul K (power K (x l) (m + 1)), zero_mul K (value_at K (suc m) q (inverse (x l))))
            | inr some ↦
                cc (
                  value_longer K (suc m) (suc (suc m)) q (inverse (x l)) (omega arith) short_q,
                  other_zero K (z ⊕ inverse (x l)) _ (other_element l low other)
                      (sym (value-factored K (suc (suc m)) f q z (inverse (x l)) (omega arith) (short_rest K (suc (suc m)) f z) whole) ∙ zeros l low some),
                  mul_zero K (v l ⊗ power K (x l) (m + 1)),
                )
          ]

  -- Forney's formula
  pub forney : (n m : ℕ) (x v f s : ℕ → F) → 1 ≤ m → AreApart n x → ((j : ℕ) → j < n → x j ≢ 𝟘) → IsShort K (m + 1) f → ((i : ℕ) → i < m → s i ≡ power_sum K n x v (i + 1))
      → ((l : ℕ) → l < n → v l ≢ 𝟘 → value_at K (m + 1) f (inverse (x l)) ≡ 𝟘)
      → (j : ℕ) → j < n → value_at K (m + 1) f (inverse (x j)) ≡ 𝟘 → v j ⊗ slope_at K (m + 1) f (inverse (x j)) ≡ value_at K m (product_at K f s) (inverse (x j))
  forney n zero x v f s some apart live short sums zeros j inside here = absurd (omega arith)
  forney n (suc m) x v f s some apart live short sums zeros j inside here =
      let e : suc m + 1 ≡ suc (suc m) = omega arith in
      rw e (forney_next n m x v f s apart live (rw e at short) (λ i low. sums i (omega arith)) (λ l low other. rw e at (zeros l low other)) j inside (rw e at here))
