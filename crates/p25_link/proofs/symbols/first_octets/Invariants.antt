use Rattle.std.proofs.Common.{◌≡◌, length, take}
use Rattle.p25_bits.specs.{Bits.{bits_of}, Numbers.{octets_from}}
use Rattle.p25_link.proofs.symbols.first_octets.Given as goal

abbrev pub invariant-loop-i : goal.invariant-loop-i
invariant-loop-i l = record { so_far : take l.i l.octets ≡ octets_from l.i (bits_of 72 l.number); nine : length l.octets ≡ 9 }
