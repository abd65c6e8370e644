use Rattle.std.proofs.Common.{◌≡◌, ◌*◌, ◌^◌, ◌<◌, take}
use Rattle.p25_bits.specs.{Bits.{bits_of}, Numbers.{number_bits}}
use Rattle.p25_trellis.specs.Interleave.{each_fourth}
use Rattle.p25_trellis.proofs.nibbles.fourths_joined.Given as goal

abbrev pub invariant-loop-k : goal.invariant-loop-k
invariant-loop-k l = record {
  bits : bits_of (4 * l.k) l.whole ≡ number_bits 4 (take l.k (each_fourth l.from l.nibbles));
  fits : l.whole < 2 ^ (4 * l.k);
}
