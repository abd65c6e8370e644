use Rattle.std.proofs.Common.{◌∙◌, arith}
use Rattle.p25_trellis.proofs.CostLaws.{last_more, cost_in-last, HasLeastFrom-last}
use Rattle.p25_trellis.proofs.least.fill_last.Goals as goal

pub loop-state-preserved : goal.loop-state-preserved
loop-state-preserved g c =
    let loop = c.loop-state in
    last_more loop.rests loop.state c.from-in-loop-state.result
    _ _ (omega (arith, c.loop-state-test.true, c.STATES-state-end.ensures, g.met.R.Rate.table.few_states)) (omega (arith, loop.auto.rests, c.requires.rests)) c.from-in-loop-state.ensures
    (cost_in-last c.args.costs.now c.from.result _ (c.from.ensures ∙ c.point.ensures.value))
    loop.invariant

pub returns : goal.returns
returns g c =
    HasLeastFrom-last g.R.Rate.STATES g.R.Rate.point_of _ c.loop-state.rests
    (λ s row. c.loop-state.invariant s (omega (arith, row, c.loop-state-test.false, c.STATES-state-end.ensures)))
