-- Polynomials over GF(2) as numbers: bit i of the number is the coefficient of x^i.
use Rattle.std.specs.Prelude.{◌≡◌, ℕ, ◌+◌, ◌*◌, ◌^◌, ◌<◌, ◌≤◌, Bool, if◌then◌else◌, List, [], ◌∷◌, bit_xor}

-- the product of a generator and a quotient, whose coefficients are listed lowest first
unfoldable pub multiple_of : ℕ → List Bool → ℕ
multiple_of generator [] = 0
multiple_of generator (bit ∷ higher) = bit_xor (2 * multiple_of generator higher) (if bit then generator else 0)

-- a polynomial is divisible by a generator: some quotient times the generator is that polynomial
pub record IsDivisible (generator number : ℕ) : Type 0 where
  pub quotient : List Bool
  pub product : multiple_of generator quotient ≡ number

-- a polynomial of a degree: its highest coefficient is that of x^degree
pub record HasDegree (polynomial degree : ℕ) : Type 0 where
  pub highest : 2 ^ degree ≤ polynomial
  pub none_above : polynomial < 2 ^ (degree + 1)

-- the remainder by a generator of a degree: of lower degree, and it differs from the polynomial by a multiple
pub record IsRemainder (generator degree number remainder : ℕ) : Type 0 where
  pub lower : remainder < 2 ^ degree
  pub divisible : IsDivisible generator (bit_xor number remainder)
