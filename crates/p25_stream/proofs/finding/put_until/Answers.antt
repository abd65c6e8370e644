use Rattle.std.proofs.Common.{arith, length-drop}
use Rattle.p25_stream.proofs.FindingLaws.{put-more, put-none}
use Rattle.p25_stream.proofs.finding.put_until.Goals as goal

pub loop-taken-init : goal.loop-taken-init
loop-taken-init c = record { there = omega arith; list = put-none c.args.held.now c.args.octets.now; len = omega arith; most = c.requires.room }

pub loop-taken-preserved : goal.loop-taken-preserved
loop-taken-preserved c =
    let octets = c.args.octets.now in
    let taken = c.loop-taken.taken in
    let put = c.put_some-taken in
    record {
      there = omega (arith, put.ensures.there, length-drop taken octets, c.loop-taken.invariant.there);
      list = put-more c.args.held.now c.loop-taken.held put.new.held octets taken put.result c.loop-taken.invariant.list put.ensures.list;
      len = omega (arith, put.ensures.len, c.loop-taken.invariant.len);
      most = put.ensures.most;
    }
