use Rattle.std.proofs.Common.{◌≡◌, ℕ, ◌≤◌}
use Rattle.p25_gf64.specs.Gf64.{gf64}
use Rattle.p25_poly.specs.Polynomial.{coefficient_of}
use Rattle.p25_poly.proofs.polynomial.Poly.degree.Given as goal

abbrev pub invariant-loop-i : goal.invariant-loop-i
invariant-loop-i l = (k : ℕ) → l.i ≤ k → coefficient_of l.self k ≡ gf64.zero
