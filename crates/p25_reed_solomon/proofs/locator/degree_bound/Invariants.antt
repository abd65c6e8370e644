use Rattle.std.proofs.Common.{◌≡◌, ℕ, ◌≤◌}
use Rattle.p25_gf64.specs.Gf64.{gf64}
use Rattle.p25_algebra.specs.Series.{coefficient}
use Rattle.p25_reed_solomon.proofs.locator.degree_bound.Given as goal

abbrev pub invariant-loop-i : goal.invariant-loop-i
invariant-loop-i l = (k : ℕ) → l.i ≤ k → coefficient gf64 l.polynomial k ≡ gf64.zero
