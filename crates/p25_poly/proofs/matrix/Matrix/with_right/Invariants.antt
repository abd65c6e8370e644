use Rattle.std.proofs.Common.{◌≡◌, ℕ, ◌<◌, length}
use Rattle.p25_gf64.specs.Gf64.{gf64}
use Rattle.p25_algebra.specs.Series.{coefficient}
use Rattle.p25_poly.specs.LinearSystem.{row_of}
use Rattle.p25_poly.proofs.matrix.Matrix.with_right.Given as goal

abbrev pub invariant-loop-i : goal.invariant-loop-i
invariant-loop-i l =
    (length l.lines ≡ 24)
    × ((r : ℕ) → (row_of l.lines r).cells ≡ (row_of l.self.lines r).cells)
    × ((r : ℕ) → r < l.i → (row_of l.lines r).right ≡ coefficient gf64 l.right r)
