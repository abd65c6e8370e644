use Rattle.std.proofs.Common.{◌≡◌, ℕ, ◌+◌, List, ◌++◌, take}
use Rattle.p25_trellis.specs.{Costs.{symbols_cost}, Least.{Chooses, HasLeastFrom}}
use Rattle.p25_trellis.proofs.{FirstPathLaws.{IsFirstLeastEnd}, PathLaws.{IsPathTo}}
use Rattle.p25_trellis.proofs.path.take_path.Given as goal

abbrev pub invariant-loop-step : goal.invariant-loop-step
invariant-loop-step g l = record {
  completes : (cost : ℕ → ℕ → ℕ) (rests : List ℕ) → HasLeastFrom g.R.Rate.STATES g.R.Rate.point_of cost rests 0
      → Chooses g.R.Rate.STATES g.R.Rate.point_of cost rests (goal.F-post g l.choose)
      → (before : ℕ) (end : List ℕ) → l.step + before ≡ 48
      → IsFirstLeastEnd g.R.Rate.STATES before (symbols_cost g.R.Rate.point_of cost l.step l.state) end
      → IsFirstLeastEnd g.R.Rate.STATES 48 (symbols_cost g.R.Rate.point_of cost 0 0) (take l.step l.path ++ end);
  path : IsPathTo g.R.Rate.STATES l.path l.state;
}
