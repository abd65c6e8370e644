use Rattle.std.proofs.Common.{◌≡◌, ◌%◌, ◌^◌, arith, lit≤}
use Rattle.p25_bits.specs.Bits.{field_of, part}
use Rattle.p25_link.specs.{Symbols.{symbol_bits}, Words.{sync_symbols, sync_of_bits, sync_of_symbols, IsEncryptionSync}}
use Rattle.p25_link.proofs.{SymbolNumbersLaws.{rest_field}, WordsLaws.{sync_words, made_word, same_sync}}
use Rattle.p25_link.proofs.encryption.EncryptionSync.from_symbols.Goals as goal

pub returns : goal.returns
unfolding sync_of_symbols sync_of_bits
returns c =
    let rest = c.symbols_number-rest in
    let algid = rest_field c.args.symbols.now 4 0 8 rest.result (omega arith) rest.ensures.value (lit≤ tt) in
    let kid : rest.result % 2 ^ 16 ≡ field_of (part 80 16 (symbol_bits c.args.symbols.now))
    = omega (arith, rest_field c.args.symbols.now 4 8 16 rest.result (omega arith) rest.ensures.value (lit≤ tt)) in
    made_word sync_symbols sync_of_symbols IsEncryptionSync 16 sync_words c.args.symbols.now _ (omega arith) (same_sync _ _ c.first_octets-mi.ensures.list algid kid)
