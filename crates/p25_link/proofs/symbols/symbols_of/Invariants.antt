use Rattle.std.proofs.Common.{◌≡◌, take}
use Rattle.p25_bits.specs.Bits.{field_of, octet_bits}
use Rattle.p25_link.proofs.symbols.symbols_of.Given as goal

abbrev pub invariant-loop-octet : goal.invariant-loop-octet
invariant-loop-octet g l = l.number ≡ field_of (octet_bits (take l.octet-index l.octets))
