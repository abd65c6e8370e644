use Rattle.std.proofs.Common.{length, arith}
use Rattle.p25_gf64.specs.Gf64.{gf64}
use Rattle.p25_poly.proofs.CoefficientLaws.{coefficient_read}
use Rattle.p25_reed_solomon.proofs.PackedSteps.{values_none, values_more}
use Rattle.p25_reed_solomon.proofs.packed.values_of.Goals as goal

pub loop-j-init : goal.loop-j-init
loop-j-init c = λ b low. values_none _ c.args.word.now b

pub loop-j-preserved : goal.loop-j-preserved
loop-j-preserved c =
    let word = c.args.word.now in
    λ b low.
    let j = c.loop-j.j in
    let s = c.index-word-j.result in
    values_more (length word) word j c.loop-j.values b c.value-number.result s c.requires (omega arith) low c.value-number.ensures.number
    (coefficient_read gf64 word j s (omega arith) c.index-word-j.is)
    (c.loop-j.invariant b low)
