use Rattle.std.proofs.Common.{◌≡◌, ℕ, ◌<◌, ◌≤◌, length}
use Rattle.p25_gf64.specs.Gf64.{gf64}
use Rattle.p25_algebra.specs.Series.{coefficient, shifted}
use Rattle.p25_poly.proofs.multiples.add_multiple.Given as goal

abbrev pub invariant-loop-i : goal.invariant-loop-i
invariant-loop-i l =
    ((k : ℕ) → k < l.i → k < length l.into → coefficient gf64 l.into k ≡ gf64.add (coefficient gf64 l.fn.into k) (gf64.mul l.factor (shifted gf64 l.shift (coefficient gf64 l.other) k)))
    × ((k : ℕ) → l.i ≤ k → coefficient gf64 l.into k ≡ coefficient gf64 l.fn.into k)
