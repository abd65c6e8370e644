use Rattle.std.proofs.Common.{◌<◌, length, ap, ◌∙◌, arith}
use Rattle.p25_bits.proofs.{BitsLaws.{length-flipped}, BitBufSteps.{length-held, held_flipped}}
use Rattle.p25_bits.proofs.bit_buf.BitBuf.flip.Goals as goal

list : goal.returns-clause-list
list c =
    let inside = c.self.inside in
    let below : c.args.i < inside.len = omega (arith, length-held, ap length c.self.view_is) in
    held_flipped c.args.self.now inside.words inside.len c.args.i c.self.view_is (omega arith)

pub returns-clause-list : goal.returns-clause-list
returns-clause-list c = list c

pub returns-clause-len : goal.returns-clause-len
returns-clause-len c = ap length (list c) ∙ length-flipped c.args.self.now c.args.i
