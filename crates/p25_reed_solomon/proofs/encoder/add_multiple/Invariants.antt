use Rattle.std.proofs.Common.{◌+◌}
use Rattle.p25_gf64.specs.Gf64.{gf64}
use Rattle.p25_algebra.specs.Series.{coefficient}
use Rattle.p25_reed_solomon.proofs.MultiplesLaws.{AddedTo}
use Rattle.p25_reed_solomon.proofs.encoder.add_multiple.Given as goal

abbrev pub invariant-loop-i : goal.invariant-loop-i
invariant-loop-i l = AddedTo gf64 (l.shift + l.i) l.into (coefficient gf64 l.fn.into) l.factor l.shift (coefficient gf64 l.other)
