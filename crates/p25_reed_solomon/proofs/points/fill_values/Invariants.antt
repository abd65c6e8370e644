use Rattle.std.proofs.Common.{◌≡◌, ℕ, ◌+◌, ◌-◌, ◌<◌, length}
use Rattle.p25_gf64.specs.Gf64.{gf64}
use Rattle.p25_algebra.specs.Series.{coefficient, value_at}
use Rattle.p25_reed_solomon.proofs.points.fill_values.Given as goal

abbrev pub invariant-loop-i : goal.invariant-loop-i
invariant-loop-i l =
    (r : ℕ) → r < length l.values → coefficient gf64 l.values r ≡ value_at gf64 (length l.polynomial - l.i) (λ k. coefficient gf64 l.polynomial (l.i + k)) (coefficient gf64 l.points r)
