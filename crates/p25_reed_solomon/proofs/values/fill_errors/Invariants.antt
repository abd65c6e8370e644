use Rattle.std.proofs.Common.{◌≡◌, ◌≢◌, ℕ, ◌<◌, ◌≤◌}
use Rattle.p25_gf64.specs.Gf64.{gf64}
use Rattle.p25_algebra.specs.Series.{coefficient}
use Rattle.p25_reed_solomon.proofs.values.fill_errors.Given as goal

abbrev pub invariant-loop-c : goal.invariant-loop-c
invariant-loop-c l = record {
  errors : (k : ℕ) → k < l.c → coefficient gf64 l.slopes k ≢ gf64.zero → gf64.mul (coefficient gf64 l.out k) (coefficient gf64 l.slopes k) ≡ coefficient gf64 l.values k;
  rest : (k : ℕ) → l.c ≤ k → coefficient gf64 l.out k ≡ gf64.zero;
}
