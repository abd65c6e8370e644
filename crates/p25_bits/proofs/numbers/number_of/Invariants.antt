use Rattle.std.proofs.Common.{◌≡◌, ◌<◌, ◌^◌, drop}
use Rattle.p25_bits.specs.Bits.{field_of, field_after}
use Rattle.p25_bits.proofs.numbers.number_of.Given as goal

abbrev pub invariant-loop-bit : goal.invariant-loop-bit
invariant-loop-bit l = (l.number < 2 ^ l.bit-index) × (field_after l.number (drop l.bit-index l.bits) ≡ field_of l.bits)
