use Rattle.std.proofs.Common.{length, ap, arith}
use Rattle.p25_bits.proofs.BitBufSteps.{length-held, drop_moved}
use Rattle.p25_bits.proofs.bit_buf.BitBuf.drop_front.Goals as goal

pub returns-clause-list : goal.returns-clause-list
returns-clause-list c =
    let inside = c.self.inside in
    drop_moved c.args.self.now _ _ c.args.n inside.len _ (omega (arith, length-held, ap length c.self.view_is, c.requires)) (omega (arith, c.div_ceil.ensures)) c.shift_down.ensures c.self.view_is
