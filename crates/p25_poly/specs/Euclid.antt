-- The sides of Euclid's algorithm, and the invariants of its steps.
use Rattle.std.specs.Prelude.{◌≡◌, ℕ, ◌+◌, ◌-◌, ◌<◌, ◌≤◌, List}
use Rattle.p25_gf64.specs.{declared.symbol.Sym.{Sym}, Field.{power}, Gf64.{gf64}}
use Rattle.p25_algebra.specs.Series.{coefficient, value_at, product_at, IsShort}
use Rattle.p25_poly.specs.declared.side.Side.{Side}

-- the coefficients that follow 32 symbols
abbrev pub behind : List Sym → ℕ → Sym
behind symbols k = coefficient gf64 symbols (32 + k)

-- the first 32 symbols are zeros
pub record IsPadded (symbols : List Sym) : Type 0 where
  pub blank : (k : ℕ) → k < 32 → coefficient gf64 symbols k ≡ gf64.zero

-- the factor times the series is the remainder, below x^count, and the remainder has no coefficient above the degree
pub record IsSide (count : ℕ) (series : ℕ → Sym) (side : Side) : Type 0 where
  pub equation : (i : ℕ) → i < count → product_at gf64 (behind side.factor) series i ≡ behind side.rest i
  pub short : IsShort gf64 (side.degree + 1) (behind side.rest)
  pub rest_padded : IsPadded side.rest
  pub factor_padded : IsPadded side.factor

-- two sides of one algorithm: the degree of each factor is bounded by the degree of the other side's remainder, and the products of each factor with
-- the other remainder add to x^count, by their values everywhere
pub record IsPair (count : ℕ) (series : ℕ → Sym) (front back : Side) : Type 0 where
  pub front_side : IsSide count series front
  pub back_side : IsSide count series back
  pub front_factor : IsShort gf64 (count + 1 - back.degree) (behind front.factor)
  pub back_factor : IsShort gf64 (count + 1 - front.degree) (behind back.factor)
  pub most : front.degree ≤ count
  pub few : count ≤ 22
  pub crosswise : (x : Sym) → gf64.add (gf64.mul (value_at gf64 32 (behind back.factor) x) (value_at gf64 32 (behind front.rest) x))
      (gf64.mul (value_at gf64 32 (behind front.factor) x) (value_at gf64 32 (behind back.rest) x)) ≡ power gf64 x count

-- a list to which a multiple of another, moved up, was added after its padding, at the positions from the first up to the last
pub record IsMoved (first last : ℕ) (multiple : Sym) (shift : ℕ) (old other new : List Sym) : Type 0 where
  pub sum : (k : ℕ) → first ≤ k → k < last → behind new k ≡ gf64.add (behind old k) (gf64.mul multiple (coefficient gf64 other (32 + k - shift)))
  pub before : (k : ℕ) → k < 32 + first → coefficient gf64 new k ≡ coefficient gf64 old k
  pub after : (k : ℕ) → last ≤ k → behind new k ≡ behind old k

-- the same at the positions from 0 to a degree, and perhaps at more
pub record IsMovedTo (degree : ℕ) (multiple : Sym) (shift : ℕ) (old other new : List Sym) : Type 0 where
  pub last : ℕ
  pub enough : degree < last
  pub most : last ≤ 32
  pub moved : IsMoved 0 last multiple shift old other new

-- the side after subtracting the multiple of the other that cancels its leading coefficient; of the factor at 16 positions
pub record IsReduced (old other new : Side) : Type 0 where
  pub multiple : Sym
  pub is_multiple : multiple ≡ gf64.mul (behind old.rest old.degree) (gf64.inverse (behind other.rest other.degree))
  pub rest : IsMovedTo old.degree multiple (old.degree - other.degree) old.rest other.rest new.rest
  pub factor : IsMoved 0 16 multiple (old.degree - other.degree) old.factor other.factor new.factor
  pub degree : new.degree + 1 ≡ old.degree
