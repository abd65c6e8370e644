-- The elements of positions.
use Rattle.std.specs.Prelude.{◌≡◌, ◌≢◌, ℕ, ◌+◌, ◌-◌, ◌<◌, ◌≤◌}
use Rattle.std.proofs.Common.{ap, sym, ◌∙◌, arith}
use Rattle.p25_gf64.specs.{Field.{power}, Symbol.{alpha}, Gf64.{gf64}}
use Rattle.p25_gf64.proofs.{FieldLaws.{mul_comm, mul_inverse, mul_cancel, inverse_ne_zero, inverse_from_one}, PowerLaws.{power-add, power_ne_zero}}
use Rattle.p25_gf64.proofs.SymbolLaws.{alpha_exponents, alpha_ne_zero, alpha_to_63}
use Rattle.p25_algebra.specs.Sums.{AreApart}
use Rattle.p25_reed_solomon.specs.Errors.{element_of, point_of}

-- different positions have different elements
pub same_place : (n a b : ℕ) → n ≤ 63 → a < n → b < n → element_of n a ≡ element_of n b → a ≡ b
same_place n a b most first second same =
    let e = alpha_exponents (n - 1 - a) (n - 1 - b) (omega arith) (omega arith) same in
    omega (arith, e)

pub elements_apart : (n : ℕ) → n ≤ 63 → AreApart n (element_of n)
elements_apart n most = record { apart = λ a b first second same. same_place n a b most first second same }

pub element_ne_zero : (n j : ℕ) → element_of n j ≢ gf64.zero
element_ne_zero n j = power_ne_zero gf64 alpha (n - 1 - j) alpha_ne_zero

-- the element of a position times its point is one
pub element-point : (n j : ℕ) → gf64.mul (element_of n j) (point_of n j) ≡ gf64.one
element-point n j = mul_inverse gf64 (element_of n j) (element_ne_zero n j)

-- different positions have different points
pub same_point : (n a b : ℕ) → n ≤ 63 → a < n → b < n → point_of n a ≡ point_of n b → a ≡ b
same_point n a b most first second same =
    same_place n a b most first second (
    mul_cancel gf64 (point_of n b) (element_of n a) (element_of n b) (inverse_ne_zero gf64 (element_of n b) (element_ne_zero n b))
    (ap (λ z. gf64.mul z (element_of n a)) (sym same)
    ∙ mul_comm gf64 (point_of n a) (element_of n a)
    ∙ element-point n a
    ∙ sym (mul_comm gf64 (point_of n b) (element_of n b) ∙ element-point n b)))

-- the point of a position is a power of α
pub point-power : (n j : ℕ) → n ≤ 63 → j < n → power gf64 alpha (64 - n + j) ≡ point_of n j
point-power n j most inside =
    let whole : (n - 1 - j) + (64 - n + j) ≡ 63 = omega arith in
    inverse_from_one gf64 (element_of n j) (power gf64 alpha (64 - n + j))
    (sym (power-add gf64 alpha (n - 1 - j) (64 - n + j)) ∙ ap (power gf64 alpha) whole ∙ alpha_to_63)
