use Rattle.std.proofs.Common.{◌≡◌, ℕ, ◌+◌, ◌-◌, ◌<◌, ◌≤◌, length}
use Rattle.p25_gf64.specs.Gf64.{gf64}
use Rattle.p25_algebra.specs.Series.{coefficient, value_at, rest_at}
use Rattle.p25_reed_solomon.proofs.values.slopes_of.Given as goal

abbrev pub invariant-loop-i : goal.invariant-loop-i
invariant-loop-i l = record {
  slopes_full : length l.slopes ≡ 32;
  values_full : length l.values ≡ 32;
  slopes : (r : ℕ) → r < 32 → coefficient gf64 l.slopes r ≡ value_at gf64
      (length l.polynomial - l.i) (λ k. rest_at gf64 (length l.polynomial) (coefficient gf64 l.polynomial) (coefficient gf64 l.points r) (l.i + k))
      (coefficient gf64 l.points r);
  values : (r : ℕ) → r < 32 → coefficient gf64 l.values r ≡ value_at gf64 (length l.polynomial - l.i) (λ k. coefficient gf64 l.polynomial (l.i + k)) (coefficient gf64 l.points r);
}

abbrev pub invariant-loop-r : goal.invariant-loop-r
invariant-loop-r l = record {
  before : (k : ℕ) → k < l.r → coefficient gf64 l.slopes k ≡ gf64.add (gf64.mul (coefficient gf64 l.initial.slopes k) (coefficient gf64 l.points k)) (coefficient gf64 l.values k);
  after : (k : ℕ) → l.r ≤ k → coefficient gf64 l.slopes k ≡ coefficient gf64 l.initial.slopes k;
  full : length l.slopes ≡ 32;
}
