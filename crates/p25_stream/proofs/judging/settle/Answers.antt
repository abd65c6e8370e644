use Rattle.std.proofs.Common.{ap, sym, subst, ◌∙◌}
use Rattle.p25_stream.specs.{Judgements.{IsJudged, is_settled, waits}, declared.judged.Judged.{Judged}}
use Rattle.p25_stream.proofs.{JudgementsLaws.{was-stays}, judging.settle.Goals.{else-not-waits-via-then-not-waits+else-not-passes, else-not-waits-via-else-not-waits}}
use Rattle.p25_stream.proofs.judging.settle.Goals as goal

pub judge_more-requires-clause-unsettled : goal.judge_more-requires-clause-unsettled
judge_more-requires-clause-unsettled c = ap is_settled (c.passes.ensures.same c.if-not-passes.true) ∙ c.requires.unsettled

pub returns-else-not-waits : goal.returns-else-not-waits
returns-else-not-waits c =
    let held = c.args.held.now in
    let was = c.args.judged.now in
    elim c.else-not-waits.branch [
      | else-not-waits-via-then-not-waits+else-not-passes w ↦
          subst (λ (b : Judged). IsJudged b held) (sym w.judged-is) (w.passes.ensures.passed w.if-not-passes.false)
      | else-not-waits-via-else-not-waits w ↦
          subst (λ (b : Judged). IsJudged b held) (sym w.judged-is)
          (was-stays was held c.requires.was (ap (waits was) (sym c.len.ensures.value) ∙ sym c.waits.ensures ∙ w.if-not-waits.false))
    ]
