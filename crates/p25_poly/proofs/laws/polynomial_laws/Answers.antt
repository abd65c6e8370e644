use Rattle.p25_poly.proofs.PolyLaws.{same_polynomial, short_polynomial}
use Rattle.p25_poly.proofs.laws.polynomial_laws.Goals as goal

pub returns : goal.returns
returns c = record { same = same_polynomial; short = short_polynomial }
