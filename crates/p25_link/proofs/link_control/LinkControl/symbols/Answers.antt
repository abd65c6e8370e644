use Rattle.std.proofs.Common.{List, Bool, ◌++◌, ◌∙◌, ap, append-nil}
use Rattle.p25_bits.specs.Bits.{octet_bits}
use Rattle.p25_bits.proofs.BitsLaws.{bits_of-zero}
use Rattle.p25_link.specs.{Symbols.{symbols_in}, Words.{link_symbols, link_of_symbols, link_word_bits, IsLinkControl}}
use Rattle.p25_link.proofs.WordsLaws.{link_words, made_symbols}
use Rattle.p25_link.proofs.link_control.LinkControl.symbols.Goals as goal

pub returns : goal.returns
unfolding link_symbols link_word_bits
returns c =
    let octets = octet_bits c.args.self.now.0 in
    made_symbols link_symbols link_of_symbols IsLinkControl 12 link_words c.args.self.now _ (record { octets = c.symbols_of.ensures.nine })
    (c.symbols_of.ensures.list ∙ ap (symbols_in 12) (ap (λ (bits : List Bool). octets ++ bits) (bits_of-zero 0) ∙ append-nil octets))
