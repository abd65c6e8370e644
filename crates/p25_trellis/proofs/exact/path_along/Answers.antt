use Rattle.std.proofs.Common.{◌<◌, refl, sym, ◌∙◌, arith}
use Rattle.p25_trellis.proofs.{PathLaws.{power-pos, IsPathTo-begins, IsPathTo-more}, ExactSteps.{sends_more, sends_all}}
use Rattle.p25_trellis.proofs.exact.path_along.Goals as goal

pub loop-step-init : goal.loop-step-init
loop-step-init g c =
    record {
      sends = λ rest. refl;
      path = IsPathTo-begins g.R.Rate.STATES (power-pos g.R.Rate.BITS_PER_SYMBOL g.R.Rate.STATES g.met.R.Rate.table.states_of_bits);
    }

pub loop-step-preserved : goal.loop-step-preserved
loop-step-preserved g c =
    let loop = c.loop-step in
    let loop_step_test = c.loop-step-test.true in
    let step = loop.step in
    let path = loop.path in
    let symbol = c.symbol_sending-state.result in
    let below : symbol < g.R.Rate.STATES = omega (arith, c.if-state-STATES.false, c.STATES.ensures) in
    record {
      sends = sends_more g.R.Rate.point_of c.args.nibbles.now path step loop.state symbol (omega (arith, loop.invariant.path.is_path.long, loop_step_test)) (omega (arith, c.told-nibbles, loop_step_test))
          (c.symbol_sending-state.ensures.sends below) loop.invariant.sends;
      path = IsPathTo-more g.R.Rate.STATES path loop.state step symbol loop.invariant.path loop_step_test below;
    }

pub returns-then-point-nibbles : goal.returns-then-point-nibbles
returns-then-point-nibbles g c =
    let loop = c.loop-step in (
      loop.invariant.path.is_path,
      sends_all g.R.Rate.point_of c.args.nibbles.now loop.path loop.step loop.state (omega arith) c.told-nibbles loop.invariant.path.is_path.last
          (sym c.point.ensures.value ∙ c.if-point-nibbles.true)
          loop.invariant.sends,
    )
