use Rattle.std.proofs.Common.{◌≡◌, ℕ, ◌<◌, length}
use Rattle.p25_gf64.specs.Gf64.{gf64}
use Rattle.p25_algebra.specs.{Sums.{sum_below}, Series.{coefficient, shifted}}
use Rattle.p25_poly.specs.Polynomial.{coefficient_of}
use Rattle.p25_poly.proofs.polynomial.Poly.mul.Given as goal

abbrev pub invariant-loop-i : goal.invariant-loop-i
invariant-loop-i l =
    (length l.coefficients ≡ 64)
    × ((k : ℕ) → k < 64 → coefficient gf64 l.coefficients k ≡ sum_below gf64 l.i (λ i. gf64.mul (coefficient_of l.self i) (shifted gf64 i (coefficient_of l.other) k)))
