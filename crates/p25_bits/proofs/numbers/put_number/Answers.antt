use Rattle.std.proofs.Common.{arith}
use Rattle.p25_bits.proofs.LoopLaws.{put_more, put_all}
use Rattle.p25_bits.proofs.numbers.put_number.Goals as goal

pub loop-i-preserved : goal.loop-i-preserved
loop-i-preserved c =
    let loop = c.loop-i in
    put_more c.args.number _ loop.bits loop.i (omega arith) (omega arith) loop.invariant

pub returns : goal.returns
returns c =
    let loop = c.loop-i in
    put_all c.args.number _ loop.bits loop.i (omega arith) (omega arith) loop.invariant
