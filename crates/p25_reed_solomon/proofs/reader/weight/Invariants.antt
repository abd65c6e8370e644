use Rattle.std.proofs.Common.{◌≡◌, ◌≤◌}
use Rattle.p25_gf64.specs.Gf64.{gf64}
use Rattle.p25_algebra.specs.{Sums.{nonzeros}, Series.{coefficient}}
use Rattle.p25_reed_solomon.proofs.reader.weight.Given as goal

abbrev pub invariant-loop-symbol : goal.invariant-loop-symbol
invariant-loop-symbol l = (l.count ≡ nonzeros gf64 l.symbol-index (coefficient gf64 l.symbols)) × (l.count ≤ l.symbol-index)
