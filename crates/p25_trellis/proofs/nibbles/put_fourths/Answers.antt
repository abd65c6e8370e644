use Rattle.std.proofs.Common.{◌+◌, ◌*◌, ◌∙◌, arith, length-set}
use Rattle.p25_trellis.specs.Interleave.{each_fourth}
use Rattle.p25_trellis.proofs.{FourthLaws.{length-fourths_of_49}, GroupSteps.{apart_all}, NibbleSteps.{put_more, others_stay}}
use Rattle.p25_trellis.proofs.nibbles.put_fourths.Goals as goal

pub loop-k-preserved : goal.loop-k-preserved
loop-k-preserved c =
    let loop = c.loop-k in
    let from = c.args.from in
    let k = loop.k in
    let nibbles = loop.nibbles in
    let long = length-fourths_of_49 from c.args.count nibbles c.requires.from loop.invariant.long c.requires.there c.requires.all in
    record {
      put = put_more from k nibbles _ (omega (arith, long, c.loop-k-test.true)) loop.invariant.put;
      long = length-set nibbles (from + 4 * k) _ ∙ loop.invariant.long;
      others = λ other there apart.
          others_stay from other k _ nibbles c.requires.from there apart ∙ loop.invariant.others other there apart;
    }

pub returns-clause-set : goal.returns-clause-set
returns-clause-set c =
    let loop = c.loop-k in
    let nibbles = loop.nibbles in
    let long = length-fourths_of_49 c.args.from c.args.count nibbles c.requires.from loop.invariant.long c.requires.there c.requires.all in
    cc (
      apart_all 4 c.args.number (each_fourth c.args.from nibbles) loop.k (omega (arith, long, c.loop-k-test.false))
          (λ i early. cc (loop.invariant.put i early, long)),
      long,
    )
