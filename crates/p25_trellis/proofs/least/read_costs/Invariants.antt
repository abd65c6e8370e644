use Rattle.std.proofs.Common.{◌≡◌, ℕ, suc, ◌+◌, ◌<◌, length}
use Rattle.p25_trellis.specs.{Costs.{cost_in, symbols_cost}, Least.{rest_in, HasLeastFrom, IsLeastEnd}}
use Rattle.p25_trellis.proofs.least.read_costs.Given as goal

abbrev pub invariant-loop-step : goal.invariant-loop-step
invariant-loop-step g l = record {
  least : HasLeastFrom g.R.Rate.STATES g.R.Rate.point_of (cost_in l.costs) l.rests l.step;
  long : length l.rests ≡ 392;
}

abbrev pub invariant-loop-state : goal.invariant-loop-state
invariant-loop-state g l = record {
  after : HasLeastFrom g.R.Rate.STATES g.R.Rate.point_of (cost_in l.costs) l.rests (suc l.step);
  here : (before state : ℕ) → l.step + before ≡ 48 → state < l.state → IsLeastEnd g.R.Rate.STATES before (symbols_cost g.R.Rate.point_of (cost_in l.costs) l.step state) (rest_in l.rests l.step state);
  long : length l.rests ≡ 392;
}
