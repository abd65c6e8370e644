use Rattle.p25_gf64.specs.Gf64.{gf64}
use Rattle.p25_poly.specs.Polynomial.{coefficient_of}
use Rattle.p25_poly.proofs.DivisionLaws.{DividedTo}
use Rattle.p25_poly.proofs.polynomial.Poly.divide.Given as goal

abbrev pub invariant-loop-shift : goal.invariant-loop-shift
invariant-loop-shift l =
    DividedTo gf64 l.shift (coefficient_of l.self) (coefficient_of l.by) l.degree l.quotient l.remainder
