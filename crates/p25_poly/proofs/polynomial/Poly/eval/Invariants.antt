use Rattle.std.proofs.Common.{◌≡◌, ◌+◌, ◌-◌}
use Rattle.p25_gf64.specs.Gf64.{gf64}
use Rattle.p25_algebra.specs.Series.{value_at}
use Rattle.p25_poly.specs.Polynomial.{coefficient_of}
use Rattle.p25_poly.proofs.polynomial.Poly.eval.Given as goal

abbrev pub invariant-loop-i : goal.invariant-loop-i
invariant-loop-i l = l.value ≡ value_at gf64 (64 - l.i) (λ k. coefficient_of l.self (l.i + k)) l.x
