use Rattle.std.proofs.Common.{rules, ℕ, suc, ◌-◌, ◌^◌, ◌<◌, length-set, ◌∙◌, arith}
use Rattle.p25_trellis.specs.{Costs.{cost_in}, Least.{step_cost}}
use Rattle.p25_trellis.proofs.CostLaws.{step_cost-lt, IsLeastEnd-at, HasLeastFrom-write, HasLeastFrom-more, HasLeastFrom-later, here_more, rest_in-first}
use Rattle.p25_trellis.proofs.least.read_costs.Goals as goal

pub best_symbol-best-requires-clause-fits : goal.best_symbol-best-requires-clause-fits
best_symbol-best-requires-clause-fits g c = λ symbol below.
    step_cost-lt g.R.Rate.STATES g.R.Rate.point_of c.args.costs.now c.loop-state.rests _ c.loop-state.state symbol c.requires.low c.loop-state.invariant.after (omega arith) below

pub loop-state-init : goal.loop-state-init
loop-state-init g c = record {
  after = HasLeastFrom-later g.R.Rate.STATES g.R.Rate.point_of (cost_in c.args.costs.now) c.loop-step.rests c.loop-step.step (suc (c.loop-step.step - 1)) (omega arith) c.loop-step.invariant.least;
  here = λ before state place row. absurd (omega arith);
  long = c.loop-step.invariant.long;
}

pub loop-state-preserved : goal.loop-state-preserved
loop-state-preserved g c =
    let few_states = g.met.R.Rate.table.few_states in
    let loop = c.loop-state in
    let states = g.R.Rate.STATES in
    let point = g.R.Rate.point_of in
    let costs = c.args.costs.now in
    let rests = loop.rests in
    let step = c.loop-step.step - 1 in
    let state = loop.state in
    let least = c.best_symbol-best.result.cost in
    let below : state < states = omega (arith, c.loop-state-test.true, c.STATES-state-end.ensures) in
    let long = loop.invariant.long in record {
      after = HasLeastFrom-write states point _ rests step c.from.result least few_states (omega (arith, below, c.from.ensures, few_states)) loop.invariant.after;
      here =
          here_more states point _ rests step state c.from.result least few_states below (omega arith) long c.from.ensures
          loop.invariant.here
          (IsLeastEnd-at states point _ rests step state c.best_symbol-best.result.symbol least (omega arith) loop.invariant.after c.best_symbol-best.ensures);
      long = length-set rests _ _ ∙ long;
    }

pub loop-step-preserved : goal.loop-step-preserved
loop-step-preserved g c = record {
  least = HasLeastFrom-more g.R.Rate.STATES g.R.Rate.point_of (cost_in c.args.costs.now) c.loop-state.rests (c.loop-step.step - 1) c.loop-state.invariant.after
      (λ before s place row. c.loop-state.invariant.here before s place (omega (arith, row, c.loop-state-test.false, c.STATES-state-end.ensures)));
  long = c.loop-state.invariant.long;
}

pub take_path-requires-clause-callable : goal.take_path-requires-clause-callable
take_path-requires-clause-callable g c =
    let rate = g.R.Rate in
    let loop = c.loop-step in
    λ step state early row.
    let fits : (symbol : ℕ) → symbol < rate.STATES → step_cost rate.point_of (cost_in c.args.costs.now) loop.rests step state symbol < 2 ^ 32
    = λ symbol below. step_cost-lt rate.STATES rate.point_of c.args.costs.now loop.rests step state symbol c.requires.low
    (HasLeastFrom-later rate.STATES rate.point_of _ loop.rests loop.step (suc step) (omega arith) loop.invariant.least) early below in
    search rules

pub returns : goal.returns
returns g c =
    let rests = c.loop-step.rests in
    rw (rest_in-first rests) at (c.take_path.ensures _ rests (HasLeastFrom-later g.R.Rate.STATES g.R.Rate.point_of _ rests c.loop-step.step 0 (omega arith) c.loop-step.invariant.least)
    (record { at = λ step state symbol early row answers. search rules }))
