use Rattle.std.proofs.Common.{◌≡◌}
use Rattle.p25_gf64.specs.Gf64.{gf64}
use Rattle.p25_algebra.specs.{Sums.{dot}, Series.{coefficient}}
use Rattle.p25_poly.proofs.row.Row.correct.Given as goal

abbrev pub invariant-loop-k : goal.invariant-loop-k
invariant-loop-k l =
    l.residual ≡ gf64.add l.self.right (dot gf64 l.k (coefficient gf64 l.self.cells) (coefficient gf64 l.unknowns))
