-- A polynomial by its coefficients.
use Rattle.std.specs.Prelude.{◌≡◌, ℕ}
use Rattle.p25_gf64.specs.{declared.symbol.Sym.{Sym}, Gf64.{gf64}}
use Rattle.p25_algebra.specs.Series.{coefficient, product_at, IsShort, IsDegree}
use Rattle.p25_poly.specs.declared.polynomial.Poly.{Poly}

-- the coefficient of x^i at each i; zero from x^64 on
abbrev pub coefficient_of : Poly → ℕ → Sym
coefficient_of p = coefficient gf64 p.coefficients

-- the dividend is the divisor times the quotient, and the remainder, which has no coefficient from the
-- divisor's degree on
pub record IsDivision (dividend divisor quotient remainder : Poly) : Type 0 where
  pub whole : (i : ℕ) → coefficient_of dividend i ≡ gf64.add (product_at gf64 (coefficient_of divisor) (coefficient_of quotient) i) (coefficient_of remainder i)
  pub lower : (d : ℕ) → IsDegree gf64 (coefficient_of divisor) d → IsShort gf64 d (coefficient_of remainder)
