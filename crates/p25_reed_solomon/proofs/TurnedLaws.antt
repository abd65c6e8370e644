-- The syndromes in reverse order are power sums of the points of the positions with errors, as the syndromes are of their elements. So the key of
-- these has a locator that vanishes at the elements, and with its coefficients in reverse order it vanishes at the points.
use Rattle.std.proofs.Common.{◌≡◌, ◌≢◌, ◌↔◌, ℕ, suc, ◌+◌, ◌-◌, ◌*◌, ◌<◌, ◌≤◌, List, length, sym, ap, ◌∙◌, arith}
use Rattle.p25_gf64.specs.{declared.symbol.Sym.{Sym}, Field.{power}, Gf64.{gf64}}
use Rattle.p25_gf64.proofs.FieldLaws.{mul_comm, mul_assoc, mul_left_comm, mul_one, mul_zero, zero_mul, mul_inverse, mul_ne_zero, other_zero, inverse_ne_zero}
use Rattle.p25_gf64.proofs.PowerLaws.{power-add, power_of_one, power_of_mul, power_ne_zero}
use Rattle.p25_algebra.specs.{Sums.{power_sum, nonzeros, AreApart}, Series.{coefficient, value_at, product_at, slope_at, IsShort}}
use Rattle.p25_algebra.proofs.{SumLaws.{sum_same, sum-mul, sum_reverse}, ValueLaws.{value_same}, ProductValueLaws.{value_longer}, VanishingLaws.{nonzeros_mono}, LocatorLaws.{locator_vanishes}}
use Rattle.p25_algebra.proofs.ForneyLaws.{forney}
use Rattle.p25_poly.specs.{declared.polynomial.Poly.{Poly}, Polynomial.{coefficient_of}, Key.{IsKey}}
use Rattle.p25_reed_solomon.specs.{ElementLaws.{element_ne_zero, element-point, same_point}, Errors.{element_of, point_of, AreErrors}}

-- powers of an element and of its inverse
powers_cancel : (x y : Sym) (k : ℕ) → gf64.mul x y ≡ gf64.one → gf64.mul (power gf64 x k) (power gf64 y k) ≡ gf64.one
powers_cancel x y k one = rw (← power_of_mul, one, power_of_one)

rest_of_power : (x y : Sym) (a b : ℕ) → gf64.mul x y ≡ gf64.one → gf64.mul (power gf64 x (a + b)) (power gf64 y b) ≡ power gf64 x a
rest_of_power x y a b one =
    simp (power-add, mul_assoc, powers_cancel, mul_one)

-- the value of a polynomial whose coefficients are in the other order, at the inverse
value_turned : (f : ℕ → Sym) (x y : Sym) (m : ℕ) → gf64.mul x y ≡ gf64.one → gf64.mul (power gf64 x m) (value_at gf64 (suc m) (λ k. f (m - k)) y) ≡ value_at gf64 (suc m) f x
value_turned f x y m one =
    sym (sum-mul gf64 (suc m) (power gf64 x m) _)
    ∙ sum_same gf64 (suc m) _ _ term
    ∙ sum_reverse gf64 (suc m) _
  where
    term : (k : ℕ) → k < suc m → gf64.mul (power gf64 x m) (gf64.mul (f (m - k)) (power gf64 y k)) ≡ gf64.mul (f (suc m - 1 - k)) (power gf64 x (suc m - 1 - k))
    term k low =
        let whole : m ≡ m - k + k = omega arith in
        mul_left_comm gf64 (power gf64 x m) _ (power gf64 y k)
        ∙ ap (gf64.mul (f (m - k))) (cc (whole, rest_of_power x y (m - k) k one))
        ∙ ap (λ w. gf64.mul (f w) (power gf64 x w)) (omega arith)

point_ne_zero : (n j : ℕ) → point_of n j ≢ gf64.zero
point_ne_zero n j = inverse_ne_zero gf64 _ (element_ne_zero n j)

points_apart : (n : ℕ) → n ≤ 63 → AreApart n (point_of n)
points_apart n most = record { apart = λ a b first second same. same_point n a b most first second same }

module _ (n checks half : ℕ) (syndromes turned : List Sym) (locator evaluator : Poly)
    (places : n ≤ 63) (few : checks ≤ 22) (some : 1 ≤ half) (within : 2 * half ≤ checks) (most : checks ≤ 2 * half + 1) (long : length turned ≡ 2 * half)
    (is : (i : ℕ) → i < 2 * half → coefficient gf64 turned i ≡ coefficient gf64 syndromes (2 * half - 1 - i))
    (key : IsKey turned locator evaluator) (errors : ℕ → Sym) (are : AreErrors n checks syndromes errors) where
  -- the factor of a position in the sums of points
  factor : ℕ → Sym
  factor j = gf64.mul (errors j) (power gf64 (element_of n j) (2 * half + 1))

  factor_zero : (j : ℕ) → errors j ≡ gf64.zero → factor j ≡ gf64.zero
  unfolding factor
  factor_zero j none = cc (none, zero_mul gf64 (power gf64 (element_of n j) (2 * half + 1)))

  sums : (i : ℕ) → i < 2 * half → coefficient gf64 turned i ≡ power_sum gf64 n (point_of n) factor (i + 1)
  unfolding factor
  sums i low =
      is i low
      ∙ sym (are.sums (2 * half - 1 - i) (omega (arith, within)))
      ∙ sum_same gf64 n _
      _
      (λ j inside.
      let whole : 2 * half + 1 ≡ 2 * half - 1 - i + 1 + (i + 1) = omega arith in
      sym (cc (mul_assoc gf64 (errors j) _ _, whole, rest_of_power _ (point_of n j) (2 * half - 1 - i + 1) (i + 1) (element-point n j))))

  fewer : nonzeros gf64 n factor ≤ half
  fewer = omega (arith, nonzeros_mono gf64 n factor errors (λ j low none. factor_zero j none), are.few, most)

  short : IsShort gf64 (half + 1) (coefficient_of locator)
  short = record { above = λ i high. key.locator_degree.above i (omega (arith, long)) }

  evaluator_short : IsShort gf64 half (coefficient_of evaluator)
  evaluator_short = record { above = λ i high. key.evaluator_degree.above i (omega (arith, long)) }

  vanishes : (j : ℕ) → j < n → factor j ≢ gf64.zero → value_at gf64 (half + 1) (coefficient_of locator) (gf64.inverse (point_of n j)) ≡ gf64.zero
  vanishes =
      locator_vanishes gf64 n half _ factor _ (coefficient gf64 turned) (points_apart n places) (λ j h. point_ne_zero n j) fewer short sums
      (λ i low high. key.equation i (omega (arith, long)) ∙ evaluator_short.above i low)

  -- the key's locator vanishes at the elements of the positions with an error alone
  at_elements : (j : ℕ) → j < n → (value_at gf64 (half + 1) (coefficient_of locator) (gf64.inverse (point_of n j)) ≡ gf64.zero) ↔ (errors j ≢ gf64.zero)
  unfolding factor
  at_elements j inside = (
    (λ none right.
        key.apart z (inverse_ne_zero gf64 (point_of n j) (point_ne_zero n j)) (value_longer gf64 (half + 1) 64 (coefficient_of locator) z (omega (arith, within, few)) short ∙ none)
        (value_longer gf64 half 64 (coefficient_of evaluator) z (omega (arith, within, few)) evaluator_short
        ∙ sym (value_same gf64 half (product_at gf64 (coefficient_of locator) (coefficient gf64 turned)) (coefficient_of evaluator) z (λ i low. key.equation i (omega (arith, long))))
        ∙ sym (forney gf64 n half (point_of n) factor (coefficient_of locator)
        (coefficient gf64 turned) some (points_apart n places) (λ l h. point_ne_zero n l) short (λ i low. sums i (omega arith)) vanishes j inside none)
        ∙ ap (λ w. gf64.mul w (slope_at gf64 (half + 1) (coefficient_of locator) z)) (factor_zero j right)
        ∙ zero_mul gf64 (slope_at gf64 (half + 1) (coefficient_of locator) z))),
    (λ other. vanishes j inside (mul_ne_zero gf64 (errors j) (power gf64 (element_of n j) (2 * half + 1)) other (power_ne_zero gf64 (element_of n j) (2 * half + 1) (element_ne_zero n j)))),
  )
    where
      z : Sym
      z = gf64.inverse (point_of n j)

  -- the same with its coefficients in the other order vanishes at their points
  pub turned_exactly : (out : List Sym) → ((i : ℕ) → i < 12 → coefficient gf64 out i ≡ coefficient_of locator (11 - i)) → (j : ℕ) → j < n
      → (value_at gf64 12 (coefficient gf64 out) (point_of n j) ≡ gf64.zero) ↔ (errors j ≢ gf64.zero)
  turned_exactly out is_out j inside = (
    (λ none. (at_elements j inside).0 (sym same ∙ ap (gf64.mul (power gf64 z 11)) none ∙ mul_zero gf64 (power gf64 z 11))),
    (λ other.
        other_zero gf64 (power gf64 z 11) (value_at gf64 12 (coefficient gf64 out) (point_of n j)) (power_ne_zero gf64 z 11 (inverse_ne_zero gf64 (point_of n j) (point_ne_zero n j)))
        (same ∙ (at_elements j inside).1 other)),
  )
    where
      z : Sym
      z = gf64.inverse (point_of n j)

      same : gf64.mul (power gf64 z 11) (value_at gf64 12 (coefficient gf64 out) (point_of n j)) ≡ value_at gf64 (half + 1) (coefficient_of locator) z
      same =
          ap (gf64.mul (power gf64 z 11)) (value_same gf64 12 (coefficient gf64 out) (λ k. coefficient_of locator (11 - k)) (point_of n j) is_out)
          ∙ value_turned (coefficient_of locator) z (point_of n j) 11 (mul_comm gf64 z (point_of n j) ∙ mul_inverse gf64 (point_of n j) (point_ne_zero n j))
          ∙ value_longer gf64 (half + 1) 12 (coefficient_of locator) z (omega (arith, within, few)) short
