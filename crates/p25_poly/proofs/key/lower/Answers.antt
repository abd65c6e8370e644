use Rattle.std.proofs.Common.{arith}
use Rattle.p25_poly.proofs.key.lower.Goals as goal

pub loop-back-preserved : goal.loop-back-preserved
loop-back-preserved c =
    let was = c.loop-back.invariant in
    let made = c.step.ensures in
    record {
      pair = λ series pair. made.pair c.args.count series (omega (arith, c.if-back-count.true)) (was.pair series pair);
      first = λ same. absurd (omega (arith, same, made.less, was.less));
      less = omega (arith, made.less, was.less);
      front_most = omega (arith, made.front_most, was.front_most);
      back_most = omega (arith, made.back_most, was.back_most);
      half = λ below. omega (arith, below, made.less, made.front_most, made.back_most, c.loop-back-test.true, c.if-back-count.true);
    }
