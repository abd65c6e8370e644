use Rattle.std.proofs.{Common.{◌∙◌, sym, ap, ap₂, arith}, lemmas.List.{get_or_default}}
use Rattle.p25_gf64.specs.Gf64.{gf64}
use Rattle.p25_algebra.proofs.ValueLaws.{value-none}
use Rattle.p25_poly.specs.Polynomial.{coefficient_of}
use Rattle.p25_poly.proofs.CoefficientLaws.{horner_step}
use Rattle.p25_poly.proofs.polynomial.Poly.eval.Goals as goal

pub loop-i-init : goal.loop-i-init
loop-i-init c = c.default-value.ensures ∙ sym (value-none gf64 _ c.args.x)

pub loop-i-preserved : goal.loop-i-preserved
loop-i-preserved c =
    c.add-value.ensures.sum
    ∙ ap₂ gf64.add (c.mul.ensures.product ∙ ap (λ v. gf64.mul v c.args.x) c.loop-i.invariant)
    (get_or_default c.args.self.now.coefficients _ _ gf64.zero (omega arith))
    ∙ horner_step gf64 (coefficient_of c.args.self.now) 64 c.loop-i.i c.args.x (omega arith) (omega arith)
