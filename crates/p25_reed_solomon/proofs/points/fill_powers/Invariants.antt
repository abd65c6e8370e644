use Rattle.std.proofs.Common.{◌≡◌, ℕ, ◌+◌, ◌<◌}
use Rattle.p25_gf64.specs.{Field.{power}, Symbol.{alpha}, Gf64.{gf64}}
use Rattle.p25_algebra.specs.Series.{coefficient}
use Rattle.p25_reed_solomon.proofs.points.fill_powers.Given as goal

abbrev pub invariant-loop-symbol : goal.invariant-loop-symbol
invariant-loop-symbol l =
    ((r : ℕ) → r < l.symbol-index → coefficient gf64 l.powers r ≡ power gf64 alpha (l.first + r)) × (l.power ≡ power gf64 alpha (l.first + l.symbol-index))
