use Rattle.std.proofs.Common.{◌∙◌, sym, arith, length-drop}
use Rattle.p25_stream.proofs.{JudgementsLaws.{IsJudged-few}, FindingLaws.{filled, put-more}}
use Rattle.p25_stream.proofs.finding.fill.Goals as goal

pub wanted-wanted-requires : goal.wanted-wanted-requires
wanted-wanted-requires c =
    let few = IsJudged-few c.loop-taken.judged c.loop-taken.held c.loop-taken.invariant.known (sym c.is_settled.ensures ∙ c.if-not-is_settled.true) in
    omega (arith, few, c.len.ensures.value)

pub loop-taken-preserved : goal.loop-taken-preserved
loop-taken-preserved c =
    let octets = c.args.octets.now in
    let taken = c.loop-taken.taken in
    let put = c.put_until-taken-in-loop-taken in
    record {
      there = omega (arith, put.ensures.there, length-drop taken octets, c.loop-taken.invariant.there);
      list = put-more c.args.held.now c.loop-taken.held put.new.held octets taken put.result c.loop-taken.invariant.list put.ensures.list;
      known = c.settle.ensures;
      most = put.ensures.most;
    }

pub returns-after-loop-taken : goal.returns-after-loop-taken
returns-after-loop-taken c =
    filled c.args.held.now c.loop-taken.held c.args.octets.now c.loop-taken.taken c.loop-taken.judged c.loop-taken.invariant.list c.loop-taken.invariant.known (λ open'. omega arith)

pub returns-else-not-is_settled : goal.returns-else-not-is_settled
returns-else-not-is_settled c =
    filled c.args.held.now c.loop-taken.held c.args.octets.now c.loop-taken.taken c.loop-taken.judged c.loop-taken.invariant.list c.loop-taken.invariant.known
    (λ open'. let two = sym open' ∙ sym c.is_settled.ensures ∙ c.if-not-is_settled.false in absurd (cc))
