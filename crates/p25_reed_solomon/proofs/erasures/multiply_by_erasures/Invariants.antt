use Rattle.std.proofs.Common.{◌≡◌, ℕ, ◌<◌, ◌≤◌, length}
use Rattle.p25_gf64.specs.Gf64.{gf64}
use Rattle.p25_algebra.specs.Series.{coefficient}
use Rattle.p25_reed_solomon.specs.Locator.{times_erasures}
use Rattle.p25_reed_solomon.proofs.erasures.multiply_by_erasures.Given as goal

abbrev pub invariant-loop-j : goal.invariant-loop-j
invariant-loop-j l = (k : ℕ) → k < 32 → coefficient gf64 l.polynomial k ≡ times_erasures (length l.erased) l.erased l.j (coefficient gf64 l.fn.polynomial) k

abbrev pub invariant-loop-i : goal.invariant-loop-i
invariant-loop-i l = record {
  before : (k : ℕ) → k < l.i → coefficient gf64 l.polynomial k ≡ gf64.add (coefficient gf64 l.initial.polynomial k) (gf64.mul l.element (coefficient gf64 l.below k));
  after : (k : ℕ) → l.i ≤ k → coefficient gf64 l.polynomial k ≡ coefficient gf64 l.initial.polynomial k;
}
