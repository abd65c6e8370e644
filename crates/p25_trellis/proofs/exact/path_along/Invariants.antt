use Rattle.std.proofs.Common.{◌≡◌, ℕ, List, ◌++◌, take}
use Rattle.p25_trellis.specs.Trellis.{nibbles_from}
use Rattle.p25_trellis.proofs.PathLaws.{IsPathTo}
use Rattle.p25_trellis.proofs.exact.path_along.Given as goal

abbrev pub invariant-loop-step : goal.invariant-loop-step
invariant-loop-step g l = record {
  sends : (rest : List ℕ) → nibbles_from g.R.Rate.point_of 0 (take l.step l.path ++ rest) ≡ take l.step l.nibbles ++ nibbles_from g.R.Rate.point_of l.state rest;
  path : IsPathTo g.R.Rate.STATES l.path l.state;
}
