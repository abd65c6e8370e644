use Rattle.std.proofs.Common.{arith}
use Rattle.p25_trellis.proofs.GroupSteps.{apart_all}
use Rattle.p25_trellis.proofs.groups.put_apart.Goals as goal

pub returns : goal.returns
returns c =
    let loop = c.loop-i in
    cc (apart_all c.args.width c.args.whole loop.numbers loop.i (omega (arith, c.loop-i-test.false, loop.auto.numbers)) loop.invariant, loop.auto.numbers)
