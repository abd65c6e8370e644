use Rattle.p25_gf64.specs.Gf64.{gf64}
use Rattle.p25_poly.proofs.CoefficientLaws.{coefficient_blank}
use Rattle.p25_poly.proofs.polynomial.Poly.zero.Goals as goal

pub returns : goal.returns
returns c = λ i. coefficient_blank gf64 c.default.result 64 i c.default.ensures
