use Rattle.std.proofs.Common.{◌≡◌, ℕ, ◌+◌, ◌/◌, ◌%◌, ◌<◌, ◌≤◌, min, length, get_or}
use Rattle.p25_bits.specs.Least.{IsLowestLeast}
use Rattle.p25_trellis.specs.{Tables.{nibble_distance}}
use Rattle.p25_trellis.proofs.near.least_at.Given as goal

abbrev pub invariant-loop-symbol : goal.invariant-loop-symbol
invariant-loop-symbol g l = record {
  first : (state : ℕ) → state < 8 → l.symbol ≡ 0 → get_or l.least state 0 ≡ 65535;
  lowest : (state : ℕ) → state < g.R.Rate.STATES → 0 < l.symbol
      → IsLowestLeast l.symbol (λ other. nibble_distance (g.R.Rate.point_of state other) l.nibble + get_or l.rests other 0) (get_or l.least state 0 % 8) (get_or l.least state 0 / 8);
  long : length l.least ≡ 8;
}

abbrev pub invariant-loop-state : goal.invariant-loop-state
invariant-loop-state g l = record {
  done : (s : ℕ) → s < l.state → get_or l.least s 0 ≡ min (get_or l.initial.least s 0) (get_or l.ranks s 0 + l.more);
  left : (s : ℕ) → l.state ≤ s → get_or l.least s 0 ≡ get_or l.initial.least s 0;
  long : length l.least ≡ 8;
}
