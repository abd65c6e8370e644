-- The generator polynomials of the Reed-Solomon codes.
use Rattle.std.specs.Prelude.{◌≡◌, ℕ, ◌+◌, ◌≤◌, List}
use Rattle.p25_gf64.specs.{declared.symbol.Sym.{Sym}, Field.{power}, Symbol.{alpha}, Gf64.{gf64}}
use Rattle.p25_algebra.specs.Series.{coefficient, value_at, IsShort}

-- the symbols are the coefficients, highest first, of a polynomial x^checks + .. that vanishes at α^1 to α^checks; divided by x^checks it is one in
-- 1/x
pub record IsGenerator (checks : ℕ) (symbols : List Sym) : Type 0 where
  pub monic : coefficient gf64 symbols 0 ≡ gf64.one
  pub short : IsShort gf64 (checks + 1) (coefficient gf64 symbols)
  pub vanishes : (i : ℕ) → 1 ≤ i → i ≤ checks → value_at gf64 (checks + 1) (coefficient gf64 symbols) (gf64.inverse (power gf64 alpha i)) ≡ gf64.zero
