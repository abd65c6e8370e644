use Rattle.std.proofs.Common.{◌≡◌, length}
use Rattle.p25_bits.specs.Numbers.{octets_from}
use Rattle.p25_packet_blocks.proofs.flags.flags_make.Given as goal

abbrev pub invariant-loop-place : goal.invariant-loop-place
invariant-loop-place l = record { list : l.octets ≡ octets_from l.place l.bits; len : length l.octets ≡ l.place }
