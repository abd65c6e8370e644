use Rattle.std.proofs.Common.{◌≡◌, ◌+◌, ◌*◌, ◌<◌, get_or, arith}
use Rattle.p25_trellis.specs.{Tables.{nibble_distance}}
use Rattle.p25_trellis.proofs.{NearSteps.{lowered_more}, PathLaws.{power-pos}}
use Rattle.p25_trellis.proofs.near.least_at.Goals as goal

pub loop-symbol-preserved : goal.loop-symbol-preserved
loop-symbol-preserved g c =
    let loop = c.loop-symbol in
    let few_states = g.met.R.Rate.table.few_states in
    let n = loop.symbol in
    let rests = c.args.rests.now in
    let rest = get_or rests c.from.result 0 in
    let same : rest ≡ get_or rests n 0 = rw c.from.ensures in
    let below : n < g.R.Rate.STATES = omega (arith, c.loop-symbol-test.true, c.STATES-symbol-end.ensures) in record {
      first = λ state row none. absurd (omega arith);
      lowest = λ state row some.
          lowered_more (λ other. nibble_distance (g.R.Rate.point_of state other) c.args.nibble + get_or rests other 0) n (get_or loop.least state 0) (get_or c.loop-state.least state 0)
          (get_or c.ranks-ranks.result.now state 0 + 8 * rest)
          (omega (arith, below, few_states))
          (loop.invariant.first state (omega (arith, row, few_states)))
          (loop.invariant.lowest state row)
          (omega (arith, c.ranks-ranks.ensures.each state row, same))
          (omega (arith, c.ranks-ranks.ensures.low state, same))
          (cc (c.loop-state.invariant.done state (omega arith), c.from-more.ensures));
      long = c.loop-state.invariant.long;
    }

pub returns-clause-least : goal.returns-clause-least
returns-clause-least g c =
    let loop = c.loop-symbol in
    let done : loop.symbol ≡ g.R.Rate.STATES = omega (arith, c.loop-symbol-test.false, loop.auto.symbol-end, c.STATES-symbol-end.ensures) in
    λ state row.
    rw done at (loop.invariant.lowest state row (omega (arith, done, power-pos)))
