use Rattle.std.proofs.Common.{◌≡◌, ℕ, ◌<◌}
use Rattle.p25_trellis.specs.{Costs.{received_cost}, Least.{rest_in}}
use Rattle.p25_trellis.proofs.near.fill_last.Given as goal

abbrev pub invariant-loop-state : goal.invariant-loop-state
invariant-loop-state g l = (state : ℕ) → state < l.state → rest_in l.rests 48 state ≡ received_cost l.received 48 (g.R.Rate.point_of state 0)
