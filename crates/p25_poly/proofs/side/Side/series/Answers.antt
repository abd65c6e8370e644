use Rattle.std.proofs.{Common.{◌∙◌, replicate, arith}, lemmas.List.{length-replicate}}
use Rattle.p25_gf64.specs.Gf64.{gf64}
use Rattle.p25_gf64.proofs.SymbolLaws.{one_made}
use Rattle.p25_poly.proofs.CoefficientLaws.{coefficient_blank, written_at, written_elsewhere}
use Rattle.p25_poly.proofs.side.Side.series.Goals as goal

pub loop-i-init : goal.loop-i-init
loop-i-init c =
    let rest_here = c.default-rest in
    record {
      full = length-replicate 64 rest_here.result;
      before = λ k low. absurd (omega arith);
      after = λ k high. coefficient_blank gf64 rest_here.result 64 k rest_here.ensures;
      front = λ k low. coefficient_blank gf64 rest_here.result 64 k rest_here.ensures;
    }

pub returns-clause-at : goal.returns-clause-at
returns-clause-at c = written_at gf64 (replicate 64 c.default-factor.result) 32 _ (omega (arith, length-replicate 64 c.default-factor.result)) ∙ one_made _

pub returns-clause-others : goal.returns-clause-others
returns-clause-others c = λ k apart.
    written_elsewhere gf64 (replicate 64 c.default-factor.result) 32 k _ apart ∙ coefficient_blank gf64 c.default-factor.result 64 k c.default-factor.ensures
