use Rattle.std.proofs.Common.{arith}
use Rattle.p25_gf64.specs.Gf64.{gf64}
use Rattle.p25_gf64.proofs.SymbolLaws.{one_made}
use Rattle.p25_poly.proofs.CoefficientLaws.{one_added}
use Rattle.p25_poly.proofs.polynomial.Poly.add.Goals as goal

pub returns : goal.returns
returns c =
    one_added gf64 c.args.self.now.coefficients c.args.other.now.coefficients c.add_multiple.new.into _ (one_made _) (omega arith) (omega arith) c.add_multiple.ensures
