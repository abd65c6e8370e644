use Rattle.std.proofs.Common.{◌≡◌, ℕ, ◌<◌, cond, eqb, get_or, length}
use Rattle.p25_gf64.specs.Gf64.{gf64}
use Rattle.p25_algebra.specs.{Sums.{sum_below}, Series.{coefficient}}
use Rattle.p25_reed_solomon.proofs.errors.place.Given as goal

abbrev pub invariant-loop-c : goal.invariant-loop-c
invariant-loop-c l = (j : ℕ) → j < length l.out → coefficient gf64 l.out j ≡ sum_below gf64 l.c (λ c. cond (eqb (get_or l.places c 0) j) (coefficient gf64 l.values c) gf64.zero)
