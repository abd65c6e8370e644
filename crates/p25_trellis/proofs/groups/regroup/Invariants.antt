use Rattle.std.proofs.Common.{◌≡◌, ◌*◌, take}
use Rattle.p25_bits.specs.Numbers.{number_bits, numbers_from}
use Rattle.p25_trellis.proofs.groups.regroup.Given as goal

abbrev pub invariant-loop-g : goal.invariant-loop-g
invariant-loop-g l = take (l.from * l.g) l.target ≡ numbers_from l.to (l.from * l.g) (number_bits l.from l.source)
