use Rattle.std.proofs.Common.{◌≡◌, ℕ, ◌<◌, ◌++◌, All, take, drop, length}
use Rattle.p25_trellis.specs.Trellis.{nibbles_from}
use Rattle.p25_trellis.proofs.path.nibbles_of.Given as goal

abbrev pub invariant-loop-step : goal.invariant-loop-step
invariant-loop-step g l = record {
  done : take l.step l.nibbles ++ nibbles_from g.R.Rate.point_of l.state (drop l.step l.path) ≡ nibbles_from g.R.Rate.point_of 0 l.path;
  fits : All (λ (n : ℕ). n < 16) l.nibbles;
  row : l.state < g.R.Rate.STATES;
  long : length l.nibbles ≡ 49;
}
