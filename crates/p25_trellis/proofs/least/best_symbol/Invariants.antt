use Rattle.p25_bits.specs.Least.{IsLowestLeast}
use Rattle.p25_trellis.specs.{Costs.{cost_in}, Least.{step_cost}}
use Rattle.p25_trellis.proofs.least.best_symbol.Given as goal

abbrev pub invariant-loop-symbol : goal.invariant-loop-symbol
invariant-loop-symbol g l = IsLowestLeast l.symbol (step_cost g.R.Rate.point_of (cost_in l.costs) l.rests l.step l.state) l.best.symbol l.best.cost
