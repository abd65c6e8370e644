use Rattle.std.proofs.Common.{arith}
use Rattle.p25_bits.proofs.BitBufSteps.{length-held}
use Rattle.p25_bits.proofs.bit_buf.BitBuf.len.Goals as goal

pub returns-clause-value : goal.returns-clause-value
returns-clause-value c =
    let inside = c.self.inside in
    cc (length-held inside.words inside.len (omega (arith, c.self.invariant)), c.self.view_is)
