use Rattle.std.proofs.Common.{◌≡◌, ℕ, ◌+◌, ◌<◌, ◌≤◌, length}
use Rattle.p25_gf64.specs.Gf64.{gf64}
use Rattle.p25_algebra.specs.Series.{coefficient}
use Rattle.p25_poly.specs.Euclid.{behind}
use Rattle.p25_poly.proofs.side.Side.series.Given as goal

abbrev pub invariant-loop-i : goal.invariant-loop-i
invariant-loop-i l = record {
  full : length l.rest ≡ 64;
  before : (k : ℕ) → k < l.i → behind l.rest k ≡ coefficient gf64 l.symbols k;
  after : (k : ℕ) → 32 + l.i ≤ k → coefficient gf64 l.rest k ≡ gf64.zero;
  front : (k : ℕ) → k < 32 → coefficient gf64 l.rest k ≡ gf64.zero;
}
