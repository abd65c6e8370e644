use Rattle.std.proofs.Common.{◌≡◌, ◌++◌, List, [], ◌∷◌, Bool, ap, ap₂, ◌∙◌}
use Rattle.p25_bits.specs.Bits.{bits_of}
use Rattle.p25_decide.specs.DecidedUnits.{low_decided, with_low_speed, with_words}
use Rattle.p25_decide.proofs.unit.decide_low_speed.Goals as goal

pub returns-clause-list : goal.returns-clause-list
unfolding with_low_speed
returns-clause-list c =
    let levels = c.args.levels.now in
    let first : bits_of 16 c.from.result ≡ low_decided levels 1504 = ap (bits_of 16) c.from.ensures ∙ c.low_word.ensures.word in
    let second : bits_of 16 c.from-2.result ≡ low_decided levels 1520 = ap (bits_of 16) c.from-2.ensures ∙ c.low_word-2.ensures.word in
    let before : c.put_field.new.self ≡ low_decided levels 1504 = c.put_field.ensures.list ∙ ap₂ (λ (xs ys : List Bool). xs ++ ys) c.new-words.ensures first in
    let both = c.put_field-2.ensures.list ∙ ap₂ (λ (xs ys : List Bool). xs ++ ys) before second in
    c.put_words.ensures.list ∙ ap (λ (bits : List Bool). with_words 16 (1504 ∷ 1520 ∷ []) bits c.args.bare.now) both
