use Rattle.std.proofs.Common.{◌≡◌, ◌+◌, ◌*◌, ◌≤◌, ◌/◌, ◌%◌, ◌^◌, ℕ, ◌<◌, get_or, length}
use Rattle.p25_soft.specs.PointCosts.{point_deviation}
use Rattle.p25_soft.proofs.reading.level_costs.Given as goal

abbrev pub invariant-loop-step : goal.invariant-loop-step
invariant-loop-step l = record {
  long : length l.costs ≡ 784;
  so_far : (k : ℕ) → k < 16 * l.step → (get_or l.costs k 0 ≡ point_deviation l.levels (k % 16) (get_or l.places (k / 16) 0)) × (get_or l.costs k 0 ≤ 2 ^ 24);
}

abbrev pub invariant-loop-nibble : goal.invariant-loop-nibble
invariant-loop-nibble l = record {
  long : length l.costs ≡ 784;
  so_far : (k : ℕ) → k < 16 * l.step + l.nibble → (get_or l.costs k 0 ≡ point_deviation l.levels (k % 16) (get_or l.places (k / 16) 0)) × (get_or l.costs k 0 ≤ 2 ^ 24);
}
