use Rattle.std.proofs.Common.{◌≡◌, ℕ, ◌<◌, get_or, length}
use Rattle.p25_gf64.specs.Gf64.{gf64}
use Rattle.p25_algebra.specs.Series.{coefficient}
use Rattle.p25_reed_solomon.specs.Errors.{point_of}
use Rattle.p25_reed_solomon.proofs.values.points_of.Given as goal

abbrev pub invariant-loop-c : goal.invariant-loop-c
invariant-loop-c l = (length l.points ≡ 32) × ((k : ℕ) → k < l.c → coefficient gf64 l.points k ≡ point_of l.n (get_or l.places k 0))
