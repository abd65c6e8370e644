use Rattle.std.proofs.Common.{◌≡◌, Bool, List, ◌+◌, ◌*◌, ◌%◌, ◌^◌, ◌++◌, refl, ap, ◌∙◌, arith, append_assoc}
use Rattle.p25_bits.specs.Bits.{bits_of, octet_bits}
use Rattle.p25_link.specs.{Symbols.{symbols_in}, Words.{header_symbols, header_of_symbols, header_word_bits, IsHeaderWord}}
use Rattle.p25_link.proofs.{SymbolNumbersLaws.{bits_joined}, WordsLaws.{header_words, made_symbols}}
use Rattle.p25_link.proofs.encryption.HeaderWord.symbols.Goals as goal

pub returns : goal.returns
unfolding header_symbols header_word_bits
returns c =
    let word = c.args.self.now in
    let keeps : IsHeaderWord word = record { mi = c.symbols_of.ensures.nine; mfid = omega arith; algid = omega arith; kid = omega arith; tgid = omega arith } in
    let first = bits_of 8 word.mfid in
    let second = first ++ bits_of 8 word.algid in
    let third = second ++ bits_of 16 word.kid in
    let two = word.mfid * 2 ^ 8 + word.algid in
    let four = two * 2 ^ 16 + word.kid in
    let number : c.from.result * 2 ^ 40 % 2 ^ 64 + c.from-2.result * 2 ^ 32 % 2 ^ 64 + c.from-3.result * 2 ^ 16 % 2 ^ 64 + c.from-4.result ≡ four * 2 ^ 16 + word.tgid = omega arith in
    let bits = ap (bits_of 48) number
    ∙ bits_joined 32 16 four word.tgid third (bits_joined 16 16 two word.kid second (bits_joined 8 8 word.mfid word.algid first refl keeps.algid) keeps.kid) keeps.tgid in
    made_symbols header_symbols header_of_symbols IsHeaderWord 20 header_words word _ keeps
    (c.symbols_of.ensures.list ∙ ap (symbols_in 20) (ap (λ (xs : List Bool). octet_bits word.mi ++ xs) bits ∙ simp append_assoc))
