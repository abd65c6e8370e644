use Rattle.std.proofs.Common.{◌≡◌, ◌*◌, take}
use Rattle.p25_bits.specs.Bits.{bits_of}
use Rattle.p25_link.specs.Symbols.{symbols_in}
use Rattle.p25_link.proofs.symbols.put_symbols.Given as goal

abbrev pub invariant-loop-i : goal.invariant-loop-i
invariant-loop-i l = take l.i l.symbols ≡ symbols_in l.i (bits_of (6 * l.count) l.number)
