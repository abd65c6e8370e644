use Rattle.std.proofs.Common.{◌≡◌, ℕ, ◌+◌, ◌*◌, ◌/◌, ◌%◌, ◌^◌, ◌<◌, length}
use Rattle.p25_gf64.specs.{Symbol.{number}, Gf64.{gf64}}
use Rattle.p25_algebra.specs.Sums.{sum_below}
use Rattle.p25_reed_solomon.proofs.PackedSteps.{term}
use Rattle.p25_reed_solomon.proofs.packed.values_of.Given as goal

abbrev pub invariant-loop-j : goal.invariant-loop-j
invariant-loop-j l = (b : ℕ) → b < 16 → l.values / 2 ^ (8 * b) % 2 ^ 8 ≡ number (sum_below gf64 l.j (term (length l.word) l.word (b + 1)))
