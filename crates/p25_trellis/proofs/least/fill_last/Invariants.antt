use Rattle.std.proofs.Common.{◌≡◌, ℕ, ◌<◌}
use Rattle.p25_trellis.specs.{Costs.{cost_in}, Least.{rest_in}}
use Rattle.p25_trellis.proofs.least.fill_last.Given as goal

abbrev pub invariant-loop-state : goal.invariant-loop-state
invariant-loop-state g l = (state : ℕ) → state < l.state → rest_in l.rests 48 state ≡ cost_in l.costs 48 (g.R.Rate.point_of state 0)
