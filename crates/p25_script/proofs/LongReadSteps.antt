-- The relation of each result of the reader of lines of long messages to the definition.
use Rattle.std.proofs.{Common.{◌≡◌, ℕ, suc, true, false, List, [], ◌∷◌, length, drop, slice_get, Some, Err, refl, ap, ◌∙◌}, lemmas.Bool.{cond-true, cond-false}}
use Rattle.std.specs.{Prelude.{codes}, Str.{bytes_eq}}
use Rattle.p25_line.specs.{declared.fault.LineFault.TheVariants.{Key}, LineReadings.{value_or_fault}}
use Rattle.p25_fragments.specs.declared.long_step.LongEvent.TheVariants.{Long}
use Rattle.p25_line.proofs.LineWordsLaws.{first-others, one-other}
use Rattle.p25_script.specs.LongScript.{long_event_by_words, long_in, long_message_in, other_event}

-- a line that begins with another word
pub other_word : (words : List (List ℕ)) (first : List ℕ) → slice_get words 0 ≡ Some first → bytes_eq first (codes "long") ≡ false → long_event_by_words words ≡ other_event first (drop 1 words)
other_word words first at other =
    ap long_event_by_words (first-others words first at) ∙ cond-false (bytes_eq first (codes "long")) (long_in (drop 1 words)) (other_event first (drop 1 words)) other

-- a line of a long message
long_word : (words : List (List ℕ)) (first : List ℕ) → slice_get words 0 ≡ Some first → bytes_eq first (codes "long") ≡ true → long_event_by_words words ≡ long_in (drop 1 words)
long_word words first at long =
    ap long_event_by_words (first-others words first at) ∙ cond-true (bytes_eq first (codes "long")) (long_in (drop 1 words)) (other_event first (drop 1 words)) long

-- with another number of words than it has
other_count : (others : List (List ℕ)) → (suc (length others) ≡ 2 → ⊥) → long_in others ≡ Err Key
other_count (word ∷ []) other = absurd (other refl)
other_count others other = refl

pub wrong_count : (words : List (List ℕ)) (first : List ℕ) → slice_get words 0 ≡ Some first → bytes_eq first (codes "long") ≡ true → (length words ≡ 2 → ⊥) → long_event_by_words words ≡ Err Key
wrong_count words first at long other =
    long_word words first at long ∙ other_count (drop 1 words) (λ same. other (ap length (first-others words first at) ∙ same))

-- and with as many
pub right_count : (words : List (List ℕ)) (first word : List ℕ) → slice_get words 0 ≡ Some first → bytes_eq first (codes "long") ≡ true → length words ≡ 2 → slice_get words 1 ≡ Some word
    → long_event_by_words words ≡ value_or_fault Long (long_message_in word)
right_count words first word at long count next = long_word words first at long ∙ ap long_in (one-other words word count next)
