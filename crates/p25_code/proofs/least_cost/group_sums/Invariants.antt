use Rattle.std.proofs.Common.{◌≡◌, ◌*◌, ◌/◌, ◌^◌, ◌<◌, ◌≤◌, ℕ, All, drop, get_or, length}
use Rattle.p25_bits.specs.Bits.{bits_of}
use Rattle.p25_code.specs.LeastCost.{pairs_cost}
use Rattle.p25_code.proofs.least_cost.group_sums.Given as goal

abbrev pub invariant-loop-at : goal.invariant-loop-at
invariant-loop-at l = record {
  long : length l.sums ≡ 256;
  sums : (k : ℕ) → k < l.at → get_or l.sums k 0 ≡ pairs_cost (drop (12 * (k / 64)) l.costs) (bits_of 6 k);
  low : All (λ cost. cost ≤ 2 ^ 18) l.sums;
}
