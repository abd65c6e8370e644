use Rattle.std.proofs.Common.{refl, arith}
use Rattle.p25_gf64.proofs.SymbolLaws.{one_made}
use Rattle.p25_reed_solomon.proofs.EncoderSteps.{generator_none, generator_more}
use Rattle.p25_reed_solomon.proofs.encoder.generator_of.Goals as goal

pub loop-i-init : goal.loop-i-init
loop-i-init c = (refl, generator_none c.default-generator.result _ c.default-generator.ensures (one_made _))

pub loop-i-preserved : goal.loop-i-preserved
loop-i-preserved c =
    (omega arith, generator_more c.loop-i.i c.loop-i.generator c.add_multiple.new.into c.pow_alpha-root.result c.pow_alpha-root.ensures c.add_multiple.ensures c.loop-i.invariant.1)
