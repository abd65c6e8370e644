use Rattle.std.proofs.Common.{◌/◌, ◌<◌, get_or, refl, arith}
use Rattle.p25_trellis.proofs.{CostLaws.{last_more, HasLeastFrom-last}, NearSteps.{received_cost-is}}
use Rattle.p25_trellis.proofs.near.fill_last.Goals as goal

pub loop-state-preserved : goal.loop-state-preserved
loop-state-preserved g c =
    let loop = c.loop-state in
    let state = loop.state in
    let ranks = c.ranks-ranks.result.now in
    let below : state < g.R.Rate.STATES = omega (arith, c.loop-state-test.true, c.from-state-end.ensures, c.STATES.ensures) in
    last_more loop.rests state state (get_or ranks state 0 / 8) _ (omega (arith, below, g.met.R.Rate.table.few_states)) (omega (arith, loop.auto.rests, c.requires.rests)) refl
    (received_cost-is c.args.received.now ranks 48 state (g.R.Rate.point_of state 0) (c.ranks-ranks.ensures.each state below))
    loop.invariant

pub returns : goal.returns
returns g c =
    HasLeastFrom-last g.R.Rate.STATES g.R.Rate.point_of _ c.loop-state.rests
    (λ s row. c.loop-state.invariant s (omega (arith, row, c.loop-state-test.false, c.from-state-end.ensures, c.STATES.ensures)))
