-- The consequences of the laws of a field of characteristic 2, by chains of equations.
use Rattle.std.proofs.Common.{◌≡◌, ◌≢◌, ◌⊎◌, sym, ap, ap₂, ◌∙◌, inl, inr}
use Rattle.p25_gf64.specs.Field.{Field}

module _ {F : Type 0} (K : Field F) where
  open K use {zero as 𝟘, one as 𝟙, add as ◌⊕◌, mul as ◌⊗◌, inverse}

  infixl 65 ◌⊕◌
  infixl 70 ◌⊗◌
  pub add_comm : (x y : F) → x ⊕ y ≡ y ⊕ x
  add_comm = K.laws.add_comm

  pub add_assoc : (x y z : F) → x ⊕ y ⊕ z ≡ x ⊕ (y ⊕ z)
  add_assoc = K.laws.add_assoc

  pub add_left_comm : (x y z : F) → x ⊕ (y ⊕ z) ≡ y ⊕ (x ⊕ z)
  add_left_comm x y z = sym (add_assoc x y z) ∙ ap (λ w. w ⊕ z) (add_comm x y) ∙ add_assoc y x z

  pub add_zero : (x : F) → x ⊕ 𝟘 ≡ x
  add_zero = K.laws.add_zero

  pub zero_add : (x : F) → 𝟘 ⊕ x ≡ x
  zero_add x = add_comm 𝟘 x ∙ add_zero x

  pub add_self : (x : F) → x ⊕ x ≡ 𝟘
  add_self = K.laws.add_self

  -- a term that is added twice cancels
  pub add_twice : (x y : F) → x ⊕ (x ⊕ y) ≡ y
  add_twice x y = sym (add_assoc x x y) ∙ ap (λ w. w ⊕ y) (add_self x) ∙ zero_add y

  -- sums in one order
  pub add_swap : (p q r s : F) → (p ⊕ q) ⊕ (r ⊕ s) ≡ (p ⊕ r) ⊕ (q ⊕ s)
  add_swap p q r s = simp (add_assoc, add_left_comm)

  -- elements are equal if their sum is zero
  pub same_from_sum : (x y : F) → x ⊕ y ≡ 𝟘 → x ≡ y
  same_from_sum x y e = sym (add_zero x) ∙ ap (λ w. x ⊕ w) (sym e) ∙ add_twice x y

  pub mul_comm : (x y : F) → x ⊗ y ≡ y ⊗ x
  mul_comm = K.laws.mul_comm

  pub mul_assoc : (x y z : F) → x ⊗ y ⊗ z ≡ x ⊗ (y ⊗ z)
  mul_assoc = K.laws.mul_assoc

  pub mul_left_comm : (x y z : F) → x ⊗ (y ⊗ z) ≡ y ⊗ (x ⊗ z)
  mul_left_comm x y z = sym (mul_assoc x y z) ∙ ap (λ w. w ⊗ z) (mul_comm x y) ∙ mul_assoc y x z

  pub mul_one : (x : F) → x ⊗ 𝟙 ≡ x
  mul_one = K.laws.mul_one

  pub one_mul : (x : F) → 𝟙 ⊗ x ≡ x
  one_mul x = mul_comm 𝟙 x ∙ mul_one x

  pub mul_add : (x y z : F) → x ⊗ (y ⊕ z) ≡ x ⊗ y ⊕ x ⊗ z
  mul_add = K.laws.mul_add

  pub add_mul : (x y z : F) → (x ⊕ y) ⊗ z ≡ x ⊗ z ⊕ y ⊗ z
  add_mul x y z = mul_comm (x ⊕ y) z ∙ mul_add z x y ∙ ap₂ ◌⊕◌ (mul_comm z x) (mul_comm z y)

  pub mul_zero : (x : F) → x ⊗ 𝟘 ≡ 𝟘
  mul_zero x = ap (λ w. x ⊗ w) (sym (add_self 𝟘)) ∙ mul_add x 𝟘 𝟘 ∙ add_self (x ⊗ 𝟘)

  pub zero_mul : (x : F) → 𝟘 ⊗ x ≡ 𝟘
  zero_mul x = mul_comm 𝟘 x ∙ mul_zero x

  pub mul_inverse : (x : F) → x ≢ 𝟘 → x ⊗ inverse x ≡ 𝟙
  mul_inverse = K.laws.mul_inverse

  -- a factor that isn't zero goes, with its inverse
  pub inverse_mul : (x y : F) → x ≢ 𝟘 → inverse x ⊗ (x ⊗ y) ≡ y
  inverse_mul x y apart =
      sym (mul_assoc (inverse x) x y) ∙ ap (λ w. w ⊗ y) (mul_comm (inverse x) x ∙ mul_inverse x apart) ∙ one_mul y

  -- a factor that isn't zero goes from both sides
  pub mul_cancel : (x y z : F) → x ≢ 𝟘 → x ⊗ y ≡ x ⊗ z → y ≡ z
  mul_cancel x y z apart e = sym (inverse_mul x y apart) ∙ ap (λ w. inverse x ⊗ w) e ∙ inverse_mul x z apart

  -- if a product is zero and one factor is not, the other is
  pub other_zero : (x y : F) → x ≢ 𝟘 → x ⊗ y ≡ 𝟘 → y ≡ 𝟘
  other_zero x y apart e = mul_cancel x y 𝟘 apart (e ∙ sym (mul_zero x))

  -- a product is zero only if a factor is
  pub zero_factor : (x y : F) → x ⊗ y ≡ 𝟘 → (x ≡ 𝟘) ⊎ (y ≡ 𝟘)
  zero_factor x y e = elim (K.is_zero x) [ inl h ↦ inl h | inr h ↦ inr (other_zero x y h e) ]

  -- no product of two elements other than zero is zero
  pub mul_ne_zero : (x y : F) → x ≢ 𝟘 → y ≢ 𝟘 → x ⊗ y ≢ 𝟘
  mul_ne_zero x y hx hy e = hy (other_zero x y hx e)

  -- a factor whose product is one is the inverse
  pub inverse_from_one : (x y : F) → x ⊗ y ≡ 𝟙 → y ≡ inverse x
  inverse_from_one x y e = mul_cancel x y (inverse x) apart (e ∙ sym (mul_inverse x apart))
    where
      apart : x ≢ 𝟘
      apart h = K.laws.one_ne_zero (sym e ∙ ap (λ w. w ⊗ y) h ∙ zero_mul y)

  pub inverse_ne_zero : (x : F) → x ≢ 𝟘 → inverse x ≢ 𝟘
  inverse_ne_zero x apart h = K.laws.one_ne_zero (sym (mul_inverse x apart) ∙ ap (λ w. x ⊗ w) h ∙ mul_zero x)
