-- Codewords written instead of others: bit by bit up to a position, and then one after the other by the recursion of `with_words`.
use Rattle.std.proofs.Common.{◌≡◌, ℕ, ◌+◌, ◌*◌, ◌<◌, ◌≤◌, Bool, false, List, [], ◌∷◌, ◌++◌, length, take, drop, set, get_or, Some, refl, ap, ap₂, sym, ◌∙◌, arith, append_assoc, append-nil, length-drop}
use Rattle.std.specs.Prelude.{slice_get}
use Rattle.std.proofs.{lemmas.Option.{get_or_from_slice_get}, lemmas.List.{take-append-drop, take_more, take_more_set, drop_more, drop_all, drop-drop, drop-set-lt, get_or-drop}}
use Rattle.p25_bits.specs.Bits.{part}
use Rattle.p25_decide.specs.DecidedUnits.{with_words}

-- before the first bit
pub word_first : (at from : ℕ) (words bare : List Bool) → take (at + 0) bare ≡ take at bare ++ part from 0 words
word_first at from words bare = let none : at + 0 ≡ at = omega arith in ap (λ k. take k bare) none ∙ sym (append-nil (take at bare))

-- one bit more
pub word_next : (at from i : ℕ) (bit : Bool) (words old bare now : List Bool) → at + i < length bare → from + i < length words → slice_get words (from + i) ≡ Some bit
    → now ≡ set bare (at + i) bit → take (at + i) bare ≡ take at old ++ part from i words → take (at + (i + 1)) now ≡ take at old ++ part from (i + 1) words
word_next at from i bit words old bare now there inside read is before =
    let next : at + (i + 1) ≡ at + i + 1 = omega arith in
    let few : i < length (drop from words) = omega (arith, length-drop from words) in
    let same : get_or (drop from words) i false ≡ bit = get_or-drop from words i false ∙ get_or_from_slice_get words (from + i) bit false read in
    ap₂ (λ k (xs : List Bool). take k xs) next is
    ∙ take_more_set bare (at + i) bit there
    ∙ ap (λ (xs : List Bool). xs ++ bit ∷ []) before
    ∙ append_assoc (take at old) (part from i words) (bit ∷ [])
    ∙ ap (λ (xs : List Bool). take at old ++ xs) (sym (take_more (drop from words) i false few ∙ ap (λ b. take i (drop from words) ++ b ∷ []) same))

-- the bits after the codeword stay
pub word_rest : (at size i : ℕ) (bit : Bool) (old bare now : List Bool) → i < size → now ≡ set bare (at + i) bit → drop (at + size) bare ≡ drop (at + size) old → drop (at + size) now ≡ drop (at + size) old
word_rest at size i bit old bare now less is before =
    let inside : at + i < at + size = omega arith in
    ap (drop (at + size)) is ∙ drop-set-lt (at + size) bare (at + i) bit inside ∙ before

-- all bits of the codeword
pub word_all : (at from size i : ℕ) (words old bare : List Bool) → i ≡ size → take (at + i) bare ≡ take at old ++ part from i words → drop (at + size) bare ≡ drop (at + size) old
    → bare ≡ take at old ++ (part from size words ++ drop (at + size) old)
word_all at from size i words old bare same front rest =
    sym (take-append-drop (at + size) bare)
    ∙ ap₂ (λ (xs ys : List Bool). xs ++ ys) (ap (λ k. take (at + k) bare) (sym same) ∙ front ∙ ap (λ k. take at old ++ part from k words) same) rest
    ∙ append_assoc (take at old) (part from size words) (drop (at + size) old)

-- before the first codeword
pub words_first : (size : ℕ) (places : List ℕ) (words bare : List Bool) → with_words size (drop 0 places) (drop (size * 0) words) bare ≡ with_words size places words bare
words_first size places words bare = let none : size * 0 ≡ 0 = omega arith in ap (λ k. with_words size places (drop k words) bare) none

with_words-more : (size at : ℕ) (places : List ℕ) (words bare : List Bool)
    → with_words size (at ∷ places) words bare ≡ with_words size places (drop size words) (take at bare ++ (take size words ++ drop (at + size) bare))
unfolding with_words
with_words-more size at places words bare = refl

-- one codeword more
pub words_next : (size i : ℕ) (places : List ℕ) (words bare now whole : List Bool) → i < length places
    → now ≡ take (get_or places i 0) bare ++ (part (size * i) size words ++ drop (get_or places i 0 + size) bare)
    → with_words size (drop i places) (drop (size * i) words) bare ≡ whole → with_words size (drop (i + 1) places) (drop (size * (i + 1)) words) now ≡ whole
words_next size i places words bare now whole inside is before =
    let at = get_or places i 0 in
    let next : size * (i + 1) ≡ size * i + size = omega arith in
    ap₂ (λ (xs ys : List Bool). with_words size (drop (i + 1) places) xs ys) (ap (λ k. drop k words) next ∙ sym (drop-drop size (size * i) words)) is
    ∙ sym (with_words-more size at (drop (i + 1) places) (drop (size * i) words) bare)
    ∙ ap (λ (ps : List ℕ). with_words size ps (drop (size * i) words) bare) (sym (drop_more places i 0 inside))
    ∙ before

-- all codewords
pub words_all : (size i : ℕ) (places : List ℕ) (words bare whole : List Bool) → length places ≤ i → with_words size (drop i places) (drop (size * i) words) bare ≡ whole → bare ≡ whole
unfolding with_words
words_all size i places words bare whole all before =
    sym (ap (λ (ps : List ℕ). with_words size ps (drop (size * i) words) bare) (drop_all i places all)) ∙ before
