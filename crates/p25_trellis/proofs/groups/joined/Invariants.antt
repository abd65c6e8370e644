use Rattle.std.proofs.Common.{◌≡◌, ◌*◌, ◌^◌, ◌<◌, take}
use Rattle.p25_bits.specs.{Bits.{bits_of}, Numbers.{number_bits}}
use Rattle.p25_trellis.proofs.groups.joined.Given as goal

abbrev pub invariant-loop-number : goal.invariant-loop-number
invariant-loop-number l = record {
  bits : bits_of (l.width * l.number-index) l.whole ≡ number_bits l.width (take l.number-index l.numbers);
  fits : l.whole < 2 ^ (l.width * l.number-index);
}
