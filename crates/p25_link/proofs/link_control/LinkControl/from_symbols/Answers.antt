use Rattle.std.proofs.Common.{ap, arith, List, ℕ}
use Rattle.p25_link.specs.{declared.link_control.LinkControl.{LinkControl}, Words.{link_symbols, link_of_bits, link_of_symbols, IsLinkControl}}
use Rattle.p25_link.proofs.WordsLaws.{link_words, made_word}
use Rattle.p25_link.proofs.link_control.LinkControl.from_symbols.Goals as goal

pub returns : goal.returns
unfolding link_of_symbols link_of_bits
returns c =
    let made : List ℕ → LinkControl = λ octets. record { 0 = octets } in
    made_word link_symbols link_of_symbols IsLinkControl 12 link_words c.args.symbols.now _ (omega arith) (ap made c.first_octets.ensures.list)
