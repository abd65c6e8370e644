-- The quotient of a polynomial by x + z, by Horner's rule at z: its product with x + z if z is a zero, that it is the only one, and the quotient of the
-- polynomial times 1 + y x.
use Rattle.std.proofs.{Common.{◌≡◌, ℕ, zero, suc, ◌+◌, ◌-◌, ◌<◌, ◌≤◌, refl, sym, ap, ap₂, ◌∙◌, inl, inr, arith}, lemmas.Bool.{cases_lt}}
use Rattle.p25_gf64.specs.Field.{Field}
use Rattle.p25_gf64.proofs.FieldLaws.{add_comm, add_assoc, add_left_comm, add_zero, add_twice, same_from_sum, mul_comm, mul_assoc, mul_left_comm, one_mul, mul_add, add_mul, mul_zero}
use Rattle.p25_gf64.proofs.PowerLaws.{power-one}
use Rattle.p25_algebra.specs.Series.{value_at, product_at, shifted, IsShort, times_linear, rest_at, slope_at}
use Rattle.p25_algebra.proofs.{ValueLaws.{value-none, value_first, value_same}, ProductLaws.{shifted_below, shifted_from, product_comm, product-add_left, product-mul_left, product-shifted}}
use Rattle.p25_algebra.proofs.ProductValueLaws.{value-add, value-mul, value_longer, value-shifted}

module _ {F : Type 0} (K : Field F) where
  open K use {zero as 𝟘, one as 𝟙, add as ◌⊕◌, mul as ◌⊗◌}

  infixl 65 ◌⊕◌
  infixl 70 ◌⊗◌
  -- a shift by one position
  pub shifted-first : (f : ℕ → F) → shifted K 1 f 0 ≡ 𝟘
  shifted-first f = shifted_below K 1 f 0 (omega arith)

  pub shifted-next : (f : ℕ → F) (k : ℕ) → shifted K 1 f (suc k) ≡ f k
  shifted-next f k = shifted_from K 1 f _ (omega arith) ∙ ap f before
    where
      before : suc k - 1 ≡ k
      before = omega arith

  -- ---- the quotient

  pub short_rest : (n : ℕ) (f : ℕ → F) (z : F) → IsShort K (n - 1) (rest_at K n f z)
  short_rest n f z = record { above = above }
    where
      above : (i : ℕ) → n - 1 ≤ i → rest_at K n f z i ≡ 𝟘
      above i high =
          let none : n - suc i ≡ 0 = omega arith in
          rw none (value-none K _ z)

  -- Horner's rule
  pub rest_next : (n : ℕ) (f : ℕ → F) (z : F) → IsShort K n f → (k : ℕ) → rest_at K n f z k ≡ f (suc k) ⊕ z ⊗ rest_at K n f z (suc k)
  rest_next n f z short k =
      elim (cases_lt (suc k) n) [
        | inl inside ↦
            ap (λ m. value_at K m (λ i. f (suc k + i)) z) (omega arith)
            ∙ value_first K (n - suc (suc k)) _ z
            ∙ ap₂ (λ a b. a ⊕ z ⊗ b) (ap f (same k)) (value_same K (n - suc (suc k)) _ _ z (λ i low. ap f (next k i)))
        | inr past ↦
            cc ((short_rest n f z).above k (omega arith), ap₂ (λ a b. a ⊕ z ⊗ b) (short.above (suc k) past) ((short_rest n f z).above (suc k) (omega arith)), mul_zero K z, add_zero K 𝟘)
      ]
    where
      same : (k : ℕ) → suc k + 0 ≡ suc k
      same k = omega arith

      next : (k i : ℕ) → suc k + suc i ≡ suc (suc k) + i
      next k i = omega arith

  pub value_by_rest : (n : ℕ) (f : ℕ → F) (z : F) → 0 < n → value_at K n f z ≡ f 0 ⊕ z ⊗ rest_at K n f z 0
  value_by_rest n f z some =
      let one_more : n ≡ suc (n - 1) = omega arith in
      cc (one_more, value_first K _ f z, value_same K _ _ _ z (λ i low. ap f (next i)))
    where
      next : (i : ℕ) → suc i ≡ suc 0 + i
      next i = omega arith

  -- a polynomial is its quotient at a zero times x + z
  pub factored : (n : ℕ) (f : ℕ → F) (z : F) → 0 < n → IsShort K n f → value_at K n f z ≡ 𝟘 → (k : ℕ) → f k ≡ z ⊗ rest_at K n f z k ⊕ shifted K 1 (rest_at K n f z) k
  factored n f z some short none zero =
      same_from_sum K (f 0) _ (sym (value_by_rest n f z some) ∙ none)
      ∙ sym (simp (shifted-first, add_zero))
  factored n f z some short none (suc k) =
      let q = rest_at K n f z in
      cc (add_twice K (z ⊗ q (suc k)) (f (suc k)), add_comm K _ (f (suc k)), rest_next n f z short k, shifted-next q k)

  -- and there is no other such factor
  pub rest_unique : (n m : ℕ) (f q : ℕ → F) (z : F) → IsShort K n f → IsShort K m q → ((k : ℕ) → f k ≡ z ⊗ q k ⊕ shifted K 1 q k) → (k : ℕ) → q k ≡ rest_at K n f z k
  rest_unique n m f q z short short_q whole k = from (n + m) k (omega arith)
    where
      before : (k : ℕ) → q k ≡ f (suc k) ⊕ z ⊗ q (suc k)
      before k =
          cc (add_twice K (z ⊗ q (suc k)) (q k), add_comm K (z ⊗ q (suc k)) _, shifted-next q k, whole (suc k))

      from : (d k : ℕ) → n + m ≤ k + d → q k ≡ rest_at K n f z k
      from zero k far = short_q.above k (omega arith) ∙ sym ((short_rest n f z).above k (omega arith))
      from (suc d) k far =
          cc (before k, from d (suc k) (omega arith), rest_next n f z short k)

  -- the value of such a product
  pub value-factored : (n : ℕ) (f q : ℕ → F) (z y : F) → 0 < n → IsShort K (n - 1) q → ((k : ℕ) → f k ≡ z ⊗ q k ⊕ shifted K 1 q k) → value_at K n f y ≡ (z ⊕ y) ⊗ value_at K n q y
  value-factored n f q z y some short whole =
      cc (
        value_same K n f (λ k. z ⊗ q k ⊕ shifted K 1 q k) y (λ k low. whole k),
        value-add K n (λ k. z ⊗ q k) (shifted K 1 q) y,
        value-mul K n z q y,
        value-shifted K 1 _ n q y short (omega arith),
        power-one K y,
        value_longer K _ n q y (omega arith) short,
        add_mul K z y _,
      )

  -- ---- times 1 + y x

  pub short_times_linear : (n : ℕ) (y : F) (f : ℕ → F) → IsShort K n f → IsShort K (suc n) (times_linear K y f)
  short_times_linear n y f short = record { above = above }
    where
      above : (i : ℕ) → suc n ≤ i → times_linear K y f i ≡ 𝟘
      above zero high = absurd (omega arith)
      above (suc i) high =
          cc (ap₂ (λ a b. a ⊕ y ⊗ b) (short.above (suc i) (omega arith)) (shifted-next f i ∙ short.above i (omega arith)), mul_zero K y, add_zero K 𝟘)

  pub value-times_linear : (n : ℕ) (y : F) (f : ℕ → F) (z : F) → IsShort K n f → value_at K (suc n) (times_linear K y f) z ≡ (𝟙 ⊕ y ⊗ z) ⊗ value_at K n f z
  value-times_linear n y f z short =
      cc (
        value-add K _ f (λ i. y ⊗ shifted K 1 f i) z,
        value_longer K n (suc n) f z (omega arith) short,
        one_mul K _,
        value-mul K (suc n) y (shifted K 1 f) z,
        value-shifted K 1 n (suc n) f z short (omega arith),
        power-one K z,
        mul_assoc K y z _,
        add_mul K 𝟙 _ _,
      )

  -- it makes no difference which factor of a product is multiplied
  pub product-times_linear : (y : F) (f g : ℕ → F) (n : ℕ) → product_at K (times_linear K y f) g n ≡ times_linear K y (product_at K f g) n
  product-times_linear y f g n =
      simp (product-add_left, product-mul_left, product-shifted)

  pub times_linear_same : (y : F) (f g : ℕ → F) → ((i : ℕ) → f i ≡ g i) → (n : ℕ) → times_linear K y f n ≡ times_linear K y g n
  times_linear_same y f g e zero = cc (e 0, shifted-first f, shifted-first g)
  times_linear_same y f g e (suc n) = cc (e _, shifted-next f n, e n, shifted-next g n)

  pub product-times_linear_right : (y : F) (f g : ℕ → F) (n : ℕ) → product_at K f (times_linear K y g) n ≡ times_linear K y (product_at K f g) n
  product-times_linear_right y f g n =
      product_comm K f _ n
      ∙ product-times_linear y g f n
      ∙ times_linear_same y _ _ (product_comm K g f) n

  -- ---- slopes

  -- coefficients that are zero change no slope
  pub slope_longer : (n m : ℕ) (f : ℕ → F) (z : F) → n ≤ m → IsShort K n f → slope_at K m f z ≡ slope_at K n f z
  slope_longer n m f z fits short =
      value_same K m _ _ z (λ k low.
      value_longer K _ (m - suc k) _ z (omega arith) (record { above = λ i high. short.above (suc k + i) (omega arith) }))
      ∙ value_longer K n m _ z fits (record { above = λ i high. (short_rest n f z).above i (omega arith) })

  -- a zero that stays keeps its slope, times the value of 1 + y x
  pub slope-kept : (n : ℕ) (y : F) (f : ℕ → F) (z : F) → 0 < n → IsShort K n f → value_at K n f z ≡ 𝟘 → slope_at K (suc n) (times_linear K y f) z ≡ (𝟙 ⊕ y ⊗ z) ⊗ slope_at K n f z
  slope-kept n y f z some short none =
      value_same K (suc n) _ (times_linear K y q) z
      (λ k low. sym (rest_unique (suc n) (suc n) (times_linear K y f) (times_linear K y q) z (short_times_linear n y f short) (short_times_linear n y q short_q) whole k))
      ∙ value-times_linear n y q z short_q
    where
      q : ℕ → F
      q = rest_at K n f z

      short_q : IsShort K n q
      short_q = record { above = λ i high. (short_rest n f z).above i (omega arith) }

      regroup : (a b c e : F) → (z ⊗ a ⊕ b) ⊕ y ⊗ (z ⊗ c ⊕ e) ≡ z ⊗ (a ⊕ y ⊗ c) ⊕ (b ⊕ y ⊗ e)
      regroup a b c e = simp (mul_add K, mul_left_comm K, add_assoc K, add_left_comm K)

      whole : (k : ℕ) → times_linear K y f k ≡ z ⊗ times_linear K y q k ⊕ shifted K 1 (times_linear K y q) k
      whole zero =
          ap₂ (λ a b. a ⊕ y ⊗ b) (factored n f z some short none 0) (shifted-first f)
          ∙ ap₂ (λ a b. z ⊗ q 0 ⊕ a ⊕ y ⊗ b) (shifted-first q) (sym (ap₂ ◌⊕◌ (mul_zero K z) refl ∙ add_zero K 𝟘))
          ∙ regroup (q 0) 𝟘 𝟘 𝟘
          ∙ ap₂ (λ a b. z ⊗ (q 0 ⊕ y ⊗ a) ⊕ b) (sym (shifted-first q)) (cc (mul_zero K y, add_zero K 𝟘, shifted-first (times_linear K y q)))
      whole (suc k) =
          ap₂ (λ a b. a ⊕ y ⊗ b) (factored n f z some short none (suc k)) (shifted-next f k ∙ factored n f z some short none k)
          ∙ regroup (q (suc k)) (shifted K 1 q (suc k)) (q k) (shifted K 1 q k)
          ∙ ap₂ ◌⊕◌ (cc (shifted-next q k)) (cc (shifted-next q k, shifted-next (times_linear K y q) k))

  -- the zero of 1 + y x has the slope of the other factor's value
  pub slope-new : (n : ℕ) (y : F) (f : ℕ → F) (z : F) → IsShort K n f → y ⊗ z ≡ 𝟙 → slope_at K (suc n) (times_linear K y f) z ≡ y ⊗ value_at K n f z
  slope-new n y f z short one =
      cc (
        value_same K (suc n) _
            _ z (λ k low. sym (rest_unique (suc n) n _ _ z (short_times_linear n y f short) short_q whole k)),
        value-mul K (suc n) y f z,
        value_longer K n (suc n) f z (omega arith) short,
      )
    where
      short_q : IsShort K n (λ k. y ⊗ f k)
      short_q = record { above = λ i high. cc (short.above i high, mul_zero K y) }

      back : (w : F) → z ⊗ (y ⊗ w) ≡ w
      back w = cc (mul_assoc K z y w, mul_comm K z y, one, one_mul K w)

      whole : (k : ℕ) → times_linear K y f k ≡ z ⊗ (y ⊗ f k) ⊕ shifted K 1 (λ k. y ⊗ f k) k
      whole zero =
          ap₂ ◌⊕◌ (sym (back (f 0))) (cc (shifted-first f, mul_zero K y, shifted-first _))
      whole (suc k) =
          ap₂ ◌⊕◌ (sym (back _)) (cc (shifted-next f k, shifted-next _ k))
