-- Finite sums in a field, and the number of some elements that are not zero.
use Rattle.std.specs.Prelude.{◌≡◌, ◌⊎◌, ℕ, zero, suc, ◌+◌, ◌<◌}
use Rattle.std.proofs.Common.{inl, inr}
use Rattle.p25_gf64.specs.Field.{Field, power}

-- the sum of the terms 0 to n - 1
unfoldable pub sum_below : {F : Type 0} → Field F → ℕ → (ℕ → F) → F
sum_below K zero term = K.zero
sum_below K (suc n) term = K.add (sum_below K n term) (term n)

-- the sum over j below n of factor j times the i-th power of element j
abbrev pub power_sum : {F : Type 0} → Field F → ℕ → (ℕ → F) → (ℕ → F) → ℕ → F
power_sum K n element factor i = sum_below K n (λ j. K.mul (factor j) (power K (element j) i))

-- the sum over i below n of the products of two lists
abbrev pub dot : {F : Type 0} → Field F → ℕ → (ℕ → F) → (ℕ → F) → F
dot K n a x = sum_below K n (λ i. K.mul (a i) (x i))

-- 0 for zero, and 1 for any other element
abbrev pub weight_by : {A B : Type 0} → A ⊎ B → ℕ
weight_by (inl same) = 0
weight_by (inr apart) = 1

-- the number of the factors 0 to n - 1 that are not zero
unfoldable pub nonzeros : {F : Type 0} → Field F → ℕ → (ℕ → F) → ℕ
nonzeros K zero factor = 0
nonzeros K (suc n) factor = nonzeros K n factor + weight_by (K.is_zero (factor n))

-- the elements 0 to n - 1 are different
pub record AreApart {F : Type 0} (n : ℕ) (element : ℕ → F) : Type 0 where
  pub apart : (i j : ℕ) → i < n → j < n → element i ≡ element j → i ≡ j
