use Rattle.std.proofs.{Common.{◌+◌, ◌∙◌, replicate, arith}, lemmas.List.{length-replicate}}
use Rattle.p25_gf64.specs.Gf64.{gf64}
use Rattle.p25_gf64.proofs.SymbolLaws.{one_made}
use Rattle.p25_poly.proofs.CoefficientLaws.{coefficient_blank, written_at, written_elsewhere}
use Rattle.p25_poly.proofs.side.Side.power.Goals as goal

pub returns-clause-at : goal.returns-clause-at
returns-clause-at c =
    written_at gf64 (replicate 64 c.default-rest.result) (32 + c.args.exponent) _ (omega (arith, length-replicate 64 c.default-rest.result)) ∙ one_made _

pub returns-clause-others : goal.returns-clause-others
returns-clause-others c = λ k apart.
    written_elsewhere gf64 (replicate 64 c.default-rest.result) (32 + c.args.exponent) k _ apart ∙ coefficient_blank gf64 c.default-rest.result 64 k c.default-rest.ensures

pub returns-clause-factor : goal.returns-clause-factor
returns-clause-factor c = λ k. coefficient_blank gf64 c.default.result 64 k c.default.ensures
