use Rattle.std.proofs.Common.{◌∙◌, refl, ap₂, ap, arith}
use Rattle.p25_gf64.specs.Gf64.{gf64}
use Rattle.p25_algebra.specs.Series.{coefficient}
use Rattle.p25_poly.proofs.CoefficientLaws.{nothing_added, added_step, coefficient_read}
use Rattle.p25_poly.proofs.multiples.add_multiple.Goals as goal

pub loop-i-init : goal.loop-i-init
loop-i-init c = (λ k low fits. nothing_added gf64 _ c.args.factor c.args.shift _ k low, λ k low. refl)

pub loop-i-preserved : goal.loop-i-preserved
loop-i-preserved c =
    let loop = c.loop-i in
    let args = c.args in
    added_step gf64 loop.i loop.into (coefficient gf64 args.into.now) args.factor args.shift (coefficient gf64 args.other.now) c.add.result (omega arith) (omega arith)
    (c.add.ensures.sum
    ∙ ap₂ gf64.add (coefficient_read gf64 loop.into loop.i c.index-into-i.result (omega arith) c.index-into-i.is)
    (c.mul.ensures.product ∙ ap (gf64.mul args.factor) (coefficient_read gf64 args.other.now _ c.index-other-i.result (omega arith) c.index-other-i.is)))
    loop.invariant
