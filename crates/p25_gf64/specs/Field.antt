-- A field of characteristic 2, over any type of elements.
use Rattle.std.specs.Prelude.{◌≡◌, ◌≢◌, ◌⊎◌, ℕ, zero, suc}

-- both operations commute and associate, each has its neutral element, each element is its own negative, each element but zero has an inverse,
-- products distribute over sums, and one is not zero
pub record FieldLaws {F : Type 0} (zero one : F) (add mul : F → F → F) (inverse : F → F) : Type 0 where
  pub add_comm : (x y : F) → add x y ≡ add y x
  pub add_assoc : (x y z : F) → add (add x y) z ≡ add x (add y z)
  pub add_zero : (x : F) → add x zero ≡ x
  pub add_self : (x : F) → add x x ≡ zero
  pub mul_comm : (x y : F) → mul x y ≡ mul y x
  pub mul_assoc : (x y z : F) → mul (mul x y) z ≡ mul x (mul y z)
  pub mul_one : (x : F) → mul x one ≡ x
  pub mul_inverse : (x : F) → x ≢ zero → mul x (inverse x) ≡ one
  pub mul_add : (x y z : F) → mul x (add y z) ≡ add (mul x y) (mul x z)
  pub one_ne_zero : one ≢ zero

-- elements with such operations, and a decision whether an element is zero
pub record Field (F : Type 0) : Type 0 where
  pub zero : F
  pub one : F
  pub add : F → F → F
  pub mul : F → F → F
  pub inverse : F → F
  pub laws : FieldLaws zero one add mul inverse
  pub is_zero : (x : F) → (x ≡ zero) ⊎ (x ≢ zero)

-- x multiplied by itself as often as the exponent; the power 0 is one
unfoldable pub power : {F : Type 0} → Field F → F → ℕ → F
power K x zero = K.one
power K x (suc n) = K.mul x (power K x n)
