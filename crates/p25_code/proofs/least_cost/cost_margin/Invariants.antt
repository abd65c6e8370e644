use Rattle.std.proofs.Common.{◌≡◌, ◌≢◌, ◌^◌, ◌<◌, ◌≤◌, ℕ}
use Rattle.p25_code.specs.LeastCost.{information_cost}
use Rattle.p25_code.proofs.least_cost.cost_margin.Given as goal

abbrev pub invariant-loop-other : goal.invariant-loop-other
invariant-loop-other g l =
    let value = information_cost g.C.BlockCode.encoding_is g.C.BlockCode.K l.costs in
    record {
      some : (number : ℕ) × (number < 2 ^ g.C.BlockCode.K) × (number ≢ l.info) × (value number ≡ l.second);
      none_less : (j : ℕ) → j < l.other → j ≢ l.info → l.second ≤ value j;
      low : l.second ≤ 2 ^ 20;
    }
