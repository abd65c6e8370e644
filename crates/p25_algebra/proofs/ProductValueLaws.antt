-- Values of sums and products of polynomials.
use Rattle.std.proofs.{Common.{◌≡◌, ℕ, zero, suc, ◌+◌, ◌-◌, ◌≤◌, sym, ap, ◌∙◌, inl, inr, arith}, lemmas.Bool.{cases_lt}}
use Rattle.p25_gf64.specs.Field.{Field, power}
use Rattle.p25_gf64.proofs.{FieldLaws.{zero_add, mul_comm, mul_assoc, one_mul, add_mul, zero_mul}, PowerLaws.{power-zero, power-suc}}
use Rattle.p25_algebra.specs.{Sums.{sum_below}, Series.{value_at, product_at, shifted, IsShort}}
use Rattle.p25_algebra.proofs.{SumLaws.{sum_same, sum-add, sum-mul, sum_longer, sum_exchange}, ValueLaws.{value_first, value_same}, ProductLaws.{shifted_below, shifted_from, product_by_rows}}

module _ {F : Type 0} (K : Field F) where
  open K use {zero as 𝟘, one as 𝟙, add as ◌⊕◌, mul as ◌⊗◌}

  infixl 65 ◌⊕◌
  infixl 70 ◌⊗◌
  pub value-add : (n : ℕ) (f g : ℕ → F) (x : F) → value_at K n (λ i. f i ⊕ g i) x ≡ value_at K n f x ⊕ value_at K n g x
  value-add n f g x =
      sum_same K n _ _ (λ i h. add_mul K _ _ _)
      ∙ sum-add K n _ _

  pub value-mul : (n : ℕ) (c : F) (f : ℕ → F) (x : F) → value_at K n (λ i. c ⊗ f i) x ≡ c ⊗ value_at K n f x
  value-mul n c f x =
      sum_same K n _ _ (λ i h. mul_assoc K c _ _)
      ∙ sum-mul K n c _

  -- coefficients that are zero change no value
  pub value_longer : (n m : ℕ) (f : ℕ → F) (x : F) → n ≤ m → IsShort K n f → value_at K m f x ≡ value_at K n f x
  value_longer n m f x h short =
      sum_longer K n m _ h (λ i low high. cc (short.above i low, zero_mul K (power K x i)))

  shifted-suc : (s : ℕ) (f : ℕ → F) (n : ℕ) → shifted K (suc s) f (suc n) ≡ shifted K s f n
  shifted-suc s f n =
      elim (cases_lt n s) [
        | inl below ↦ shifted_below K _ f _ (omega arith) ∙ sym (shifted_below K s f n below)
        | inr from ↦ cc (shifted_from K (suc s) f (suc n) (omega arith), same, shifted_from K s f n from)
      ]
    where
      same : suc n - suc s ≡ n - s
      same = omega arith

  shifted-none : (f : ℕ → F) (n : ℕ) → shifted K 0 f n ≡ f n
  shifted-none f n = shifted_from K 0 f n (omega arith) ∙ ap f same
    where
      same : n - 0 ≡ n
      same = omega arith

  -- the value of a polynomial times x^s
  pub value-shifted : (s k n : ℕ) (f : ℕ → F) (x : F) → IsShort K k f → s + k ≤ n → value_at K n (shifted K s f) x ≡ power K x s ⊗ value_at K k f x
  value-shifted zero k n f x short fits =
      value_same K n (shifted K 0 f) f x (λ i h. shifted-none f i)
      ∙ value_longer k n f x (omega arith) short
      ∙ sym (simp (power-zero, one_mul))
  value-shifted (suc s) k zero f x short fits = absurd (omega arith)
  value-shifted (suc s) k (suc n) f x short fits =
      cc (
        value_first K n (shifted K _ f) x,
        shifted_below K (suc s) f 0 (omega arith),
        value_same K n (λ i. shifted K (suc s) f (suc i)) (shifted K s f) x (λ i h. shifted-suc s f i),
        value-shifted s k n f x short (omega arith),
        zero_add K (x ⊗ _),
        mul_assoc K x (power K x s) (value_at K k f x),
        power-suc K x s,
      )

  sum-mul_right : (n : ℕ) (t : ℕ → F) (c : F) → sum_below K n t ⊗ c ≡ sum_below K n (λ i. t i ⊗ c)
  sum-mul_right n t c =
      simp (mul_comm, sum-mul, sum_same)

  -- the value of a product is the product of the values
  pub value-product : (m k n : ℕ) (f g : ℕ → F) (x : F) → IsShort K m f → IsShort K k g → m + k ≤ n → value_at K n (product_at K f g) x ≡ value_at K m f x ⊗ value_at K k g x
  value-product m k n f g x short_f short_g fits =
      sum_same K n _ _
      (λ j h. cc (product_by_rows K m f g short_f j, sum-mul_right m (λ i. f i ⊗ shifted K i g j) (power K x j)))
      ∙ sum_exchange K n m (λ j i. f i ⊗ shifted K i g j ⊗ power K x j)
      ∙ sum_same K m _ _
      (λ i h.
      cc (value-mul n (f i) (shifted K i g) x, value-shifted i k n g x short_g (omega arith), mul_assoc K (f i) _ _))
      ∙ sym (sum-mul_right m _ _)
