use Rattle.std.proofs.Common.{arith}
use Rattle.p25_bits.proofs.WordsLaws.{moved_more}
use Rattle.p25_bits.proofs.words.shift_down.Goals as goal

pub loop-k-preserved : goal.loop-k-preserved
loop-k-preserved c =
    let loop = c.loop-k in
    moved_more loop.words c.args.words.now c.args.by loop.k c.window.result (omega arith) (omega arith) c.window.ensures loop.invariant.0 loop.invariant.1
