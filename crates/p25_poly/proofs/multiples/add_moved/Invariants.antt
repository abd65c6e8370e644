use Rattle.std.proofs.Common.{◌≡◌, ℕ, ◌+◌, ◌-◌, ◌<◌, ◌≤◌}
use Rattle.p25_gf64.specs.Gf64.{gf64}
use Rattle.p25_algebra.specs.Series.{coefficient}
use Rattle.p25_poly.specs.Euclid.{behind}
use Rattle.p25_poly.proofs.multiples.add_moved.Given as goal

abbrev pub invariant-loop-i : goal.invariant-loop-i
invariant-loop-i l = record {
  sum : (k : ℕ) → l.place ≤ k → k < l.place + l.i → behind l.into k ≡ gf64.add (behind l.fn.into k) (gf64.mul l.multiple (coefficient gf64 l.other (32 + k - l.shift)));
  after : (k : ℕ) → l.place + l.i ≤ k → behind l.into k ≡ behind l.fn.into k;
  before : (k : ℕ) → k < 32 + l.place → coefficient gf64 l.into k ≡ coefficient gf64 l.fn.into k;
}
