use Rattle.std.proofs.Common.{◌≡◌, length}
use Rattle.p25_vectors.specs.Damage.{inverted}
use Rattle.p25_vectors.proofs.damage.invert.Given as goal

abbrev pub invariant-loop-k : goal.invariant-loop-k
invariant-loop-k l = (l.bits ≡ inverted l.at l.k l.initial.bits) × (length l.bits ≡ length l.initial.bits)
