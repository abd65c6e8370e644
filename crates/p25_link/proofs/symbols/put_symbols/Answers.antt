use Rattle.std.proofs.Common.{◌*◌, arith, length, sym}
use Rattle.p25_bits.specs.Bits.{bits_of}
use Rattle.p25_link.proofs.{SymbolsLaws.{symbols_in-none}, SymbolNumbersLaws.{symbol_made, symbol_number, symbol_set}}
use Rattle.p25_link.proofs.symbols.put_symbols.Goals as goal

pub loop-i-init : goal.loop-i-init
loop-i-init c = sym (symbols_in-none (bits_of (6 * length c.args.symbols.now) c.args.number))

pub loop-i-preserved : goal.loop-i-preserved
loop-i-preserved c =
    let count = length c.args.symbols.now in
    let bits = bits_of (6 * count) c.args.number in
    symbol_set c.loop-i.symbols bits c.loop-i.i c.of_low_bits.result (omega arith) c.loop-i.invariant
    (symbol_made _ _ c.of_low_bits.result (symbol_number count c.loop-i.i c.args.number (omega arith)) c.of_low_bits.ensures)
