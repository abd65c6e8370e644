use Rattle.std.proofs.Common.{◌≡◌, ℕ, ◌<◌}
use Rattle.p25_gf64.specs.Gf64.{gf64}
use Rattle.p25_algebra.specs.Series.{coefficient}
use Rattle.p25_poly.proofs.row.Row.pivot.Given as goal

abbrev pub invariant-loop-k : goal.invariant-loop-k
invariant-loop-k l = (k : ℕ) → k < l.k → coefficient gf64 l.self.cells k ≡ gf64.zero
