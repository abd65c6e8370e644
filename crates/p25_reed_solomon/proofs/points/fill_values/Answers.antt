use Rattle.std.proofs.Common.{◌+◌, length, ap, ap₂, sym, ◌∙◌, arith}
use Rattle.p25_gf64.specs.{Gf64.{gf64}}
use Rattle.p25_algebra.specs.Series.{coefficient, value_at}
use Rattle.p25_algebra.proofs.ValueLaws.{value-none}
use Rattle.p25_poly.proofs.CoefficientLaws.{coefficient_blank, coefficient_read, horner_step}
use Rattle.p25_reed_solomon.proofs.ListLaws.{value_whole}
use Rattle.p25_reed_solomon.proofs.points.fill_values.Goals as goal

pub loop-i-init : goal.loop-i-init
loop-i-init c = λ r low.
    ap (λ s. coefficient gf64 s r) (c.fill.ensures.after (λ y e. e)) ∙ coefficient_blank gf64 c.default.result _ r c.default.ensures
    ∙ sym (value-none gf64 _ _)
    ∙ ap (λ m. value_at gf64 m (λ k. coefficient gf64 c.args.polynomial.now ((length c.args.polynomial.now) + k)) (coefficient gf64 c.args.points.now r)) (omega arith)

pub loop-i-preserved : goal.loop-i-preserved
loop-i-preserved c =
    let polynomial = c.args.polynomial.now in
    λ r low.
    c.horner_step.ensures r (omega arith)
    ∙ ap₂ (λ v s. gf64.add (gf64.mul v (coefficient gf64 c.args.points.now r)) s) (c.loop-i.invariant r (omega arith))
    (coefficient_read gf64 polynomial _ c.index-polynomial-i.result (omega arith) c.index-polynomial-i.is)
    ∙ horner_step gf64 (coefficient gf64 polynomial) _ c.loop-i.i _ (omega arith) (omega arith)

pub returns : goal.returns
returns c = λ r low.
    c.loop-i.invariant r (omega arith) ∙ value_whole _ c.loop-i.i _ _ (omega arith)
