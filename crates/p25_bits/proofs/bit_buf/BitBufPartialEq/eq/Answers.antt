use Rattle.std.proofs.Common.{sym, ◌∙◌}
use Rattle.p25_bits.proofs.DistanceLaws.{pointwise-distance_of}
use Rattle.p25_bits.proofs.bit_buf.BitBufPartialEq.eq.Goals as goal

pub returns-then-len : goal.returns-then-len
returns-then-len c =
    cc (c.distance.ensures, pointwise-distance_of c.args.self.now c.args.other.now (sym c.len.ensures.value ∙ c.if-len.true ∙ c.len-2.ensures.value))
