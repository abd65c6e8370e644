use Rattle.std.proofs.Common.{◌≡◌, ℕ, ◌*◌, get_or, take}
use Rattle.p25_bits.specs.{Bits.{bits_of}, Numbers.{joined_below}}
use Rattle.p25_link.specs.Symbols.{symbols_in}
use Rattle.p25_coded_fields.proofs.decide.put_words.Given as goal

abbrev pub invariant-loop-i : goal.invariant-loop-i
invariant-loop-i l = take (l.each * l.i) l.word ≡ joined_below l.i (λ j. symbols_in l.each (bits_of (6 * l.each) (get_or l.infos j 0)))
