use Rattle.std.proofs.Common.{◌≡◌, ◌*◌, ◌≤◌, take}
use Rattle.p25_bits.specs.{Distance.{distance_of}, Numbers.{number_bits}}
use Rattle.p25_bits.proofs.words.differing.Given as goal

abbrev pub invariant-loop-k : goal.invariant-loop-k
invariant-loop-k l = (l.places ≤ 64 * l.k) × (l.places ≡ distance_of (take (64 * l.k) (number_bits 64 l.a)) (take (64 * l.k) (number_bits 64 l.b)))
