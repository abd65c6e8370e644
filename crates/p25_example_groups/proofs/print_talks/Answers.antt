use Rattle.std.proofs.Common.{◌+◌, [], length, Option, ap, subst, ◌∙◌, arith, length-drop}
use Rattle.std.specs.Io.KnownBytes.{Appends}
use Rattle.p25_units.specs.Items.{covered}
use Rattle.p25_example_groups.specs.{Printed.{talk_line}, declared.Talk.{Talk}}
use Rattle.p25_example_groups.proofs.PrintedLaws.{printed-item}
use Rattle.p25_example_groups.proofs.print_talks.Goals as goal

pub loop-item-preserved : goal.loop-item-preserved
loop-item-preserved g c =
    let gave = c.in-Some.ensures.given in
    let before = g.W.Write.contents c.loop-item.output in
    let now = g.W.Write.contents c.print_talk.new.output in
    let wrote = subst (λ (talk : Option Talk). Appends before now (talk_line talk)) c.read_talk.ensures c.in_ok-print_talk.ensures in
    record {
      same = gave.same ∙ c.loop-item.invariant.same;
      bits = omega (arith, gave.there, gave.place, ap length gave.left, length-drop (covered c.in-Some.item) c.loop-item.scanner.held, c.loop-item.invariant.bits);
      printed = printed-item [] _ before now _ _ _ c.in-Some.item _ c.loop-item.invariant.printed gave wrote;
    }
