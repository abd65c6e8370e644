use Rattle.std.proofs.Common.{◌≡◌, ℕ, ◌-◌, ◌<◌, length}
use Rattle.p25_gf64.specs.Gf64.{gf64}
use Rattle.p25_algebra.specs.Series.{coefficient}
use Rattle.p25_poly.specs.Polynomial.{coefficient_of}
use Rattle.p25_reed_solomon.proofs.wrong.wrong_locator.Given as goal

abbrev pub invariant-loop-i : goal.invariant-loop-i
invariant-loop-i l = record {
  turned : (k : ℕ) → k < l.i → coefficient gf64 l.turned k ≡ coefficient gf64 l.syndromes (l.count - 1 - k);
  full : length l.turned ≡ 22;
}

abbrev pub invariant-loop-i-2 : goal.invariant-loop-i-2
invariant-loop-i-2 l = record {
  turned : (k : ℕ) → k < l.i → coefficient gf64 l.locator k ≡ coefficient_of l.key.locator (11 - k);
  full : length l.locator ≡ 12;
}
