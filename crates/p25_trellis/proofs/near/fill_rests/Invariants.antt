use Rattle.std.proofs.Common.{◌≡◌, ℕ, suc, ◌+◌, ◌<◌, length}
use Rattle.p25_bits.specs.Least.{IsLowestLeast}
use Rattle.p25_trellis.specs.{Costs.{received_cost, symbols_cost}, Least.{rest_in, step_cost, HasLeastFrom, HasLowestFrom, IsLeastEnd}}
use Rattle.p25_trellis.proofs.near.fill_rests.Given as goal

abbrev pub invariant-loop-step : goal.invariant-loop-step
invariant-loop-step g l = record {
  least : HasLeastFrom g.R.Rate.STATES g.R.Rate.point_of (received_cost l.received) l.rests l.step;
  lowest : HasLowestFrom g.R.Rate.STATES g.R.Rate.point_of (received_cost l.received) l.rests l.symbols l.step;
  long : length l.rests ≡ 392;
  symbols_long : length l.symbols ≡ 392;
}

abbrev pub invariant-loop-state : goal.invariant-loop-state
invariant-loop-state g l = record {
  after : HasLeastFrom g.R.Rate.STATES g.R.Rate.point_of (received_cost l.received) l.rests (suc l.step);
  here : (before state : ℕ) → l.step + before ≡ 48 → state < l.state
      → IsLeastEnd g.R.Rate.STATES before (symbols_cost g.R.Rate.point_of (received_cost l.received) l.step state) (rest_in l.rests l.step state);
  lowest_after : HasLowestFrom g.R.Rate.STATES g.R.Rate.point_of (received_cost l.received) l.rests l.symbols (suc l.step);
  lowest : (state : ℕ) → state < l.state
      → IsLowestLeast g.R.Rate.STATES (step_cost g.R.Rate.point_of (received_cost l.received) l.rests l.step state) (rest_in l.symbols l.step state) (rest_in l.rests l.step state);
  next : (symbol : ℕ) → symbol < 8 → rest_in l.rests (suc l.step) symbol ≡ rest_in l.initial.rests (suc l.step) symbol;
  long : length l.rests ≡ 392;
  symbols_long : length l.symbols ≡ 392;
}
