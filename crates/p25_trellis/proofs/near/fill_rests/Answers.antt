use Rattle.std.proofs.Common.{suc, ◌-◌, ◌/◌, ◌%◌, ◌<◌, below_more, length-set, get_or, refl, ◌∙◌, arith}
use Rattle.p25_trellis.specs.{Costs.{received_cost}}
use Rattle.p25_trellis.proofs.CostLaws.{IsLeastEnd-at, HasLeastFrom-later, HasLeastFrom-write, here_more, rest_in-other}
use Rattle.p25_trellis.proofs.NearSteps.{least-fits, IsLowestLeast-next, IsLowestLeast-step, HasLowestFrom-write, lowest-kept, lowest-written}
use Rattle.p25_trellis.proofs.near.fill_rests.Goals as goal

pub overflow_cast-rests : goal.overflow_cast-rests
overflow_cast-rests g c =
    let received = c.args.received.now in
    let loop = c.loop-step in
    let states = g.R.Rate.STATES in
    let point = g.R.Rate.point_of in
    let before = loop.rests in
    let step = loop.step - 1 in
    let state = c.loop-state.state in
    let rank = get_or c.least_at-least.result state 0 in
    let below : state < states = omega (arith, c.loop-state-test.true, c.from-state-end.ensures, c.STATES.ensures) in
    let after = HasLeastFrom-later states point (received_cost received) before loop.step (suc step) (omega arith) loop.invariant.least in
    omega (
      arith,
      least-fits states point received before step state (rank % 8) (rank / 8) after (omega arith)
          (IsLowestLeast-step states point received before step state (get_or received step 0) (rank % 8) (rank / 8) g.met.R.Rate.table.few_states refl
          (c.least_at-least.ensures.least state below)),
    )

pub loop-state-preserved : goal.loop-state-preserved
loop-state-preserved g c =
    let loop_here = c.loop-state in
    let held = loop_here.invariant in
    let received = c.args.received.now in
    let loop = c.loop-step in
    let states = g.R.Rate.STATES in
    let point = g.R.Rate.point_of in
    let cost = received_cost received in
    let before = loop.rests in
    let rests = loop_here.rests in
    let symbols = loop_here.symbols in
    let step = loop.step - 1 in
    let state = loop_here.state in
    let rank = get_or c.least_at-least.result state 0 in
    let least = rank / 8 in
    let few = g.met.R.Rate.table.few_states in
    let below : state < states = omega (arith, c.loop-state-test.true, c.from-state-end.ensures, c.STATES.ensures) in
    let column : state < 8 = omega (arith, below, few) in
    let after = HasLeastFrom-later states point cost before loop.step (suc step) (omega arith) loop.invariant.least in
    let choice = IsLowestLeast-step states point received before step state (get_or received step 0) _ least few refl
    (c.least_at-least.ensures.least state below) in record {
      after = HasLeastFrom-write states point cost rests step state least few column held.after;
      here =
          here_more states point cost rests step state state least few below (omega arith) held.long refl
          held.here
          (IsLeastEnd-at states point cost before step state _ least (omega arith) after choice);
      lowest_after = HasLowestFrom-write step state least _ few column held.lowest_after;
      lowest =
          below_more _ state
          (λ s lower.
          lowest-kept states point cost rests symbols step state least _ step s few column (omega arith) (omega arith) (omega arith) (held.lowest s lower))
          (lowest-written states point cost rests symbols step state least _ few column (omega arith) (omega arith)
          (IsLowestLeast-next states point cost before rests step state (rank % 8) least few held.next choice));
      next = λ symbol low.
          rest_in-other rests step state (suc step) symbol least column low (omega arith) ∙ held.next symbol low;
      long = length-set rests _ _ ∙ held.long;
      symbols_long = length-set symbols _ _ ∙ held.symbols_long;
    }
