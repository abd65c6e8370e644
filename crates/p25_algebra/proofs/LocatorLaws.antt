-- Locators: polynomials whose products with power sums have coefficients of zero. Such a coefficient is a power sum of other factors, so these
-- factors vanish.
use Rattle.std.proofs.Common.{◌≡◌, ◌≢◌, ℕ, suc, ◌+◌, ◌-◌, ◌*◌, ◌<◌, ◌≤◌, sym, ap, ap₂, ◌∙◌, arith}
use Rattle.p25_gf64.specs.Field.{Field, power}
use Rattle.p25_gf64.proofs.{FieldLaws.{mul_comm, mul_assoc, mul_left_comm, zero_mul, mul_inverse, mul_ne_zero, other_zero}, PowerLaws.{power-add, power_ne_zero}}
use Rattle.p25_algebra.specs.{Sums.{power_sum, nonzeros, AreApart}, Series.{value_at, product_at, IsShort}}
use Rattle.p25_algebra.proofs.{SumLaws.{sum_same}, VanishingLaws.{nonzeros_mono, vanishing}, ProductValueLaws.{value_longer}, ForneyLaws.{product_sums}}

module _ {F : Type 0} (K : Field F) where
  open K use {zero as 𝟘, one as 𝟙, add as ◌⊕◌, mul as ◌⊗◌, inverse}

  infixl 65 ◌⊕◌
  infixl 70 ◌⊗◌
  -- a polynomial vanishes at the inverse of the element of each factor that isn't zero
  pub locator_vanishes : (n t : ℕ) (x v f s : ℕ → F) → AreApart n x → ((j : ℕ) → j < n → x j ≢ 𝟘) → nonzeros K n v ≤ t → IsShort K (t + 1) f → ((i : ℕ) → i < 2 * t → s i ≡ power_sum K n x v (i + 1))
      → ((i : ℕ) → t ≤ i → i < 2 * t → product_at K f s i ≡ 𝟘)
      → (j : ℕ) → j < n → v j ≢ 𝟘 → value_at K (t + 1) f (inverse (x j)) ≡ 𝟘
  locator_vanishes n t x v f s apart live few short sums none j inside other =
      other_zero K (v j ⊗ power K (x j) t) (value_at K (t + 1) f (inverse (x j))) (mul_ne_zero K (v j) (power K (x j) t) other (power_ne_zero K (x j) t (live j inside)))
      (vanishing K n t 1 x w apart live fewer vanish j inside)
    where
      w : ℕ → F
      w l = v l ⊗ power K (x l) t ⊗ value_at K (t + 1) f (inverse (x l))

      fewer : nonzeros K n w ≤ t
      fewer =
          omega (
            arith,
            nonzeros_mono K n w v
                (λ l low e. cc (e, zero_mul K (power K (x l) t), zero_mul K (value_at K (t + 1) f (inverse (x l))))),
          )

      term : (p q a b : F) → a ⊗ p ⊗ b ⊗ q ≡ a ⊗ (p ⊗ q) ⊗ b
      term p q a b = simp (mul_assoc K, mul_comm K, mul_left_comm K)

      vanish : (i : ℕ) → 1 ≤ i → i < 1 + t → power_sum K n x w i ≡ 𝟘
      vanish i low high =
          let m : ℕ = t + i - 1 in
          let next : m + 1 ≡ t + i = omega arith in
          sum_same K n (λ l. w l ⊗ power K (x l) i) _
          (λ l below.
          term (power K (x l) t) (power K (x l) i) (v l) (value_at K (t + 1) f (inverse (x l)))
          ∙ ap₂ (λ a b. v l ⊗ a ⊗ b) (sym (power-add K (x l) t i) ∙ ap (power K (x l)) (sym next)) (sym (value_longer K (t + 1) (suc m) f (inverse (x l)) (omega arith) short)))
          ∙ sym (product_sums K n m x v f s (λ l below. mul_inverse K (x l) (live l below)) (λ k fits. sums k (omega arith)))
          ∙ none m (omega arith) (omega arith)
