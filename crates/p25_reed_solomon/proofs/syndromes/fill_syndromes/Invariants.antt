use Rattle.std.proofs.Common.{◌≡◌, ℕ, ◌+◌, ◌<◌}
use Rattle.p25_gf64.specs.Gf64.{gf64}
use Rattle.p25_algebra.specs.Series.{coefficient}
use Rattle.p25_reed_solomon.specs.ValueLaws.{front_value}
use Rattle.p25_reed_solomon.proofs.syndromes.fill_syndromes.Given as goal

abbrev pub invariant-loop-symbol : goal.invariant-loop-symbol
invariant-loop-symbol l = (r : ℕ) → r < 32 → coefficient gf64 l.out r ≡ front_value (coefficient gf64 l.word) (r + 1) l.symbol-index
