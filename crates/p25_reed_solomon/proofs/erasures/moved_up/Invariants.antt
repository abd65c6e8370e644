use Rattle.std.proofs.Common.{◌≡◌, ℕ, ◌+◌, ◌<◌, length}
use Rattle.p25_gf64.specs.Gf64.{gf64}
use Rattle.p25_algebra.specs.Series.{coefficient}
use Rattle.p25_reed_solomon.proofs.erasures.moved_up.Given as goal

abbrev pub invariant-loop-i : goal.invariant-loop-i
invariant-loop-i l = record {
  full : length l.moved ≡ 33;
  first : coefficient gf64 l.moved 0 ≡ gf64.zero;
  before : (k : ℕ) → k < l.i → coefficient gf64 l.moved (1 + k) ≡ coefficient gf64 l.polynomial k;
}
