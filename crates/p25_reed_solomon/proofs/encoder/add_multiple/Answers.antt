use Rattle.std.proofs.Common.{◌∙◌, ap₂, arith}
use Rattle.p25_gf64.specs.Gf64.{gf64}
use Rattle.p25_poly.proofs.CoefficientLaws.{coefficient_read}
use Rattle.p25_reed_solomon.proofs.MultiplesLaws.{added_none, added_more, added_all}
use Rattle.p25_reed_solomon.proofs.encoder.add_multiple.Goals as goal

pub loop-i-init : goal.loop-i-init
loop-i-init c = added_none gf64 c.args.into.now c.args.factor c.args.shift _

pub loop-i-preserved : goal.loop-i-preserved
loop-i-preserved c =
    let loop = c.loop-i in
    let args = c.args in
    added_more gf64 loop.i loop.into _ args.factor args.shift _ c.add.result (omega arith)
    (c.add.ensures.sum
    ∙ ap₂ gf64.add (coefficient_read gf64 loop.into _ c.index-into-shift.result (omega arith) c.index-into-shift.is)
    (cc (c.mul.ensures.product, coefficient_read gf64 args.other.now loop.i c.index-other-i.result (omega arith) c.index-other-i.is)))
    loop.invariant

pub returns : goal.returns
returns c = added_all gf64 32 c.loop-i.i c.loop-i.into
    _ c.args.factor c.args.shift _ (omega arith) c.requires.short c.loop-i.invariant
