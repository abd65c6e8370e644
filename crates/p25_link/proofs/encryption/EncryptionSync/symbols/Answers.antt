use Rattle.std.proofs.Common.{◌≡◌, Bool, List, ◌+◌, ◌*◌, ◌%◌, ◌^◌, ◌++◌, refl, ap, sym, ◌∙◌, arith, append_assoc}
use Rattle.p25_bits.specs.Bits.{bits_of, octet_bits}
use Rattle.p25_link.specs.{Symbols.{symbols_in}, Words.{sync_symbols, sync_of_symbols, sync_word_bits, IsEncryptionSync}}
use Rattle.p25_link.proofs.{SymbolNumbersLaws.{bits_joined}, WordsLaws.{sync_words, made_symbols}}
use Rattle.p25_link.proofs.encryption.EncryptionSync.symbols.Goals as goal

pub returns : goal.returns
unfolding sync_symbols sync_word_bits
returns c =
    let sync = c.args.self.now in
    let octets = octet_bits sync.mi in
    let algid = bits_of 8 sync.algid in
    let keeps : IsEncryptionSync sync = record { mi = c.symbols_of.ensures.nine; algid = omega arith; kid = omega arith } in
    let number : c.from.result * 2 ^ 16 % 2 ^ 64 + c.from-2.result ≡ sync.algid * 2 ^ 16 + sync.kid = omega arith in
    let bits = ap (bits_of 24) number ∙ bits_joined 8 16 sync.algid sync.kid algid refl keeps.kid in
    made_symbols sync_symbols sync_of_symbols IsEncryptionSync 16 sync_words sync _ keeps
    (c.symbols_of.ensures.list ∙ ap (symbols_in 16) (ap (λ (xs : List Bool). octets ++ xs) bits ∙ sym (append_assoc octets algid (bits_of 16 sync.kid))))
