use Rattle.std.proofs.Common.{◌≡◌, ◌+◌, ◌*◌, ◌++◌, take}
use Rattle.p25_bits.specs.{Bits.{part}, Numbers.{number_bits}}
use Rattle.p25_bits.proofs.words.append_windows.Given as goal

abbrev pub invariant-loop-k : goal.invariant-loop-k
invariant-loop-k l = take (l.at + 64 * l.k) (number_bits 64 l.words) ≡ take l.at (number_bits 64 l.initial.words) ++ part l.from (64 * l.k) (number_bits 64 l.other)
