-- Solutions of the key equation of Reed-Solomon and BCH codes.
use Rattle.std.specs.Prelude.{◌≡◌, ◌≢◌, ℕ, ◌+◌, ◌/◌, ◌<◌, List, length}
use Rattle.p25_gf64.specs.{declared.symbol.Sym.{Sym}, Gf64.{gf64}}
use Rattle.p25_algebra.specs.Series.{coefficient, value_at, product_at, IsZero, IsShort}
use Rattle.p25_poly.specs.{declared.polynomial.Poly.{Poly}, Polynomial.{coefficient_of}}

-- a solution for 2t syndromes, the coefficients of a polynomial S, lowest first: a locator other than zero, of degree at most t, and an evaluator of
-- degree below t; locator times S and the evaluator are the same below x^(2t), and only 0 can be a zero of both
pub record IsKey (syndromes : List Sym) (locator evaluator : Poly) : Type 0 where
  pub nonzero : IsZero gf64 (coefficient_of locator) → ⊥
  pub locator_degree : IsShort gf64 (length syndromes / 2 + 1) (coefficient_of locator)
  pub evaluator_degree : IsShort gf64 (length syndromes / 2) (coefficient_of evaluator)
  pub equation : (i : ℕ) → i < length syndromes
      → product_at gf64 (coefficient_of locator) (coefficient gf64 syndromes) i ≡ coefficient_of evaluator i
  pub apart : (x : Sym) → x ≢ gf64.zero → value_at gf64 64 (coefficient_of locator) x ≡ gf64.zero
      → value_at gf64 64 (coefficient_of evaluator) x ≢ gf64.zero
