use Rattle.std.proofs.Common.{◌≡◌, ℕ, ◌*◌, ◌/◌, ◌%◌, ◌^◌, ◌<◌, length}
use Rattle.p25_gf64.specs.{Symbol.{number}, Gf64.{gf64}}
use Rattle.p25_algebra.specs.Series.{coefficient}
use Rattle.p25_reed_solomon.proofs.packed.put_values.Given as goal

abbrev pub invariant-loop-b : goal.invariant-loop-b
invariant-loop-b l = (length l.out ≡ 32) × ((k : ℕ) → k < l.b → number (coefficient gf64 l.out k) ≡ l.values / 2 ^ (8 * k) % 2 ^ 8)
