use Rattle.std.proofs.Common.{◌<◌, length, ap, arith}
use Rattle.p25_bits.proofs.BitBufSteps.{length-held, slice_get-held}
use Rattle.p25_bits.proofs.bit_buf.BitBuf.get.Goals as goal

pub returns : goal.returns
returns c =
    let inside = c.self.inside in
    let below : c.args.i < inside.len = omega (arith, length-held, ap length c.self.view_is) in
    slice_get-held c.args.self.now inside.words inside.len c.args.i c.self.view_is c.requires below (omega arith)
