use Rattle.std.proofs.Common.{◌≡◌, ◌*◌, take, drop}
use Rattle.p25_bits.specs.{Bits.{part}, Numbers.{number_bits}}
use Rattle.p25_bits.proofs.words.shift_down.Given as goal

abbrev pub invariant-loop-k : goal.invariant-loop-k
invariant-loop-k l = (take (64 * l.k) (number_bits 64 l.words) ≡ part l.by (64 * l.k) (number_bits 64 l.initial.words)) × (drop l.k l.words ≡ drop l.k l.initial.words)
