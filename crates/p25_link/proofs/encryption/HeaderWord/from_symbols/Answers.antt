use Rattle.std.proofs.Common.{◌≡◌, ◌%◌, ◌^◌, arith, lit≤}
use Rattle.p25_bits.specs.Bits.{field_of, part}
use Rattle.p25_link.specs.{Symbols.{symbol_bits}, Words.{header_symbols, header_of_bits, header_of_symbols, IsHeaderWord}}
use Rattle.p25_link.proofs.{SymbolNumbersLaws.{rest_field}, WordsLaws.{header_words, made_word, same_header}}
use Rattle.p25_link.proofs.encryption.HeaderWord.from_symbols.Goals as goal

pub returns : goal.returns
unfolding header_of_symbols header_of_bits
returns c =
    let rest = c.symbols_number-rest in
    let mfid = rest_field c.args.symbols.now 8 0 8 rest.result (omega arith) rest.ensures.value (lit≤ tt) in
    let algid = rest_field c.args.symbols.now 8 8 8 rest.result (omega arith) rest.ensures.value (lit≤ tt) in
    let kid = rest_field c.args.symbols.now 8 16 16 rest.result (omega arith) rest.ensures.value (lit≤ tt) in
    let tgid : rest.result % 2 ^ 16 ≡ field_of (part 104 16 (symbol_bits c.args.symbols.now))
    = omega (arith, rest_field c.args.symbols.now 8 32 16 rest.result (omega arith) rest.ensures.value (lit≤ tt)) in
    made_word header_symbols header_of_symbols IsHeaderWord 20 header_words c.args.symbols.now _ (omega arith) (same_header _ _ c.first_octets.ensures.list mfid algid kid tgid)
