use Rattle.std.proofs.Common.{◌≡◌, take}
use Rattle.p25_bits.specs.Bits.{field_of}
use Rattle.p25_link.specs.Symbols.{symbol_bits}
use Rattle.p25_link.proofs.symbols.symbols_number.Given as goal

abbrev pub invariant-loop-symbol : goal.invariant-loop-symbol
invariant-loop-symbol l = l.number ≡ field_of (symbol_bits (take l.symbol-index l.symbols))
