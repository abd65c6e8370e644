use Rattle.std.proofs.Common.{◌∙◌}
use Rattle.p25_bits.proofs.BitBufSteps.{flipped-set, set-same}
use Rattle.p25_bits.proofs.bit_buf.BitBuf.set.Goals as goal

pub returns-then-get-bit-clause-list : goal.returns-then-get-bit-clause-list
returns-then-get-bit-clause-list c = c.flip.ensures.list ∙ flipped-set c.args.self.now c.args.i c.get.result c.args.bit c.get.ensures c.if-get-bit.true

pub returns-else-get-bit-clause-list : goal.returns-else-get-bit-clause-list
returns-else-get-bit-clause-list c = set-same c.args.self.now c.args.i c.get.result c.args.bit c.get.ensures c.if-get-bit.false
