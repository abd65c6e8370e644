use Rattle.std.proofs.{Common.{length, sym, ap, ◌∙◌, ◌*◌, ◌≡◌, arith}, lemmas.List.{take_all}}
use Rattle.p25_bits.specs.Bits.{field_of}
use Rattle.p25_bits.proofs.BitsLaws.{field_of-nil}
use Rattle.p25_link.specs.Symbols.{symbol_bits}
use Rattle.p25_link.proofs.{SymbolsLaws.{length-symbol_bits, symbol_bits-nil}, SymbolNumbersLaws.{few_bits-lt, number_more, symbols_room}}
use Rattle.p25_link.proofs.symbols.symbols_number.Goals as goal

pub loop-symbol-init : goal.loop-symbol-init
loop-symbol-init c = sym (ap field_of symbol_bits-nil ∙ field_of-nil)

pub overflow_mul-number : goal.overflow_mul-number
overflow_mul-number c = omega (arith, symbols_room c.args.symbols.now c.loop-symbol.symbol-index (omega arith), c.loop-symbol.invariant)

pub overflow_add-number : goal.overflow_add-number
overflow_add-number c =
    omega (arith, symbols_room c.args.symbols.now c.loop-symbol.symbol-index (omega arith), c.loop-symbol.invariant, c.from.ensures, c.value.ensures.below, c.value.ensures.number)

pub loop-symbol-preserved : goal.loop-symbol-preserved
loop-symbol-preserved c =
    number_more c.args.symbols.now c.loop-symbol.symbol-index c.from.result c.loop-symbol.number c.symbol-item.result
    (omega arith) c.symbol-item.is (c.from.ensures ∙ c.value.ensures.number) c.loop-symbol.invariant

pub returns-clause-fits : goal.returns-clause-fits
returns-clause-fits c =
    let symbols = c.args.symbols.now in
    let is : c.loop-symbol.number ≡ field_of (symbol_bits symbols)
    = c.loop-symbol.invariant ∙ ap (λ xs. field_of (symbol_bits xs)) (take_all c.loop-symbol.symbol-index symbols (omega arith)) in
    omega (arith, is, few_bits-lt (symbol_bits symbols) (6 * length symbols) (omega (arith, length-symbol_bits symbols)))
