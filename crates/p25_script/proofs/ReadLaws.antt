-- The relation of each result of the reader of script lines to the definition.
use Rattle.std.proofs.Common.{◌≡◌, ℕ, suc, List, [], ◌∷◌, length, drop, slice_get, Some, None, Err, refl, ap, ◌∙◌}
use Rattle.p25_line.specs.{declared.fault.LineFault.TheVariants.{Key, Kind as WrongKind}, LineReadings.{named_or_fault}}
use Rattle.p25_line.proofs.LineWordsLaws.{first-others}
use Rattle.p25_script.specs.{Script.{event_by_words, event_in, event_named, word_count}, declared.names.EventKind.{EventKind}}
use Rattle.p25_script.specs.declared.names.EventKind.TheVariants.{Send as SendLine, Timeout as TimeoutLine, Reopen as ReopenLine, Deliver as DeliverLine}

-- the first word names no type
pub wrong_kind : (words : List (List ℕ)) (first : List ℕ) → slice_get words 0 ≡ Some first → event_named first ≡ None → event_by_words words ≡ Err WrongKind
wrong_kind words first at none = ap event_by_words (first-others words first at) ∙ ap (λ kind. named_or_fault event_in kind (drop 1 words)) none

-- or one
pub right_kind : (words : List (List ℕ)) (first : List ℕ) (kind : EventKind) → slice_get words 0 ≡ Some first → event_named first ≡ Some kind → event_by_words words ≡ event_in kind (drop 1 words)
right_kind words first kind at named = ap event_by_words (first-others words first at) ∙ ap (λ kind. named_or_fault event_in kind (drop 1 words)) named

-- with another number of words the fault is a wrong key
other_count : (kind : EventKind) (others : List (List ℕ)) → (suc (length others) ≡ word_count kind → ⊥) → event_in kind others ≡ Err Key
other_count SendLine (word ∷ []) other = absurd (other refl)
other_count TimeoutLine [] other = absurd (other refl)
other_count ReopenLine [] other = absurd (other refl)
other_count DeliverLine (way ∷ word ∷ []) other = absurd (other refl)
other_count kind others other = refl

pub wrong_count : (words : List (List ℕ)) (first : List ℕ) (kind : EventKind) → slice_get words 0 ≡ Some first → event_named first ≡ Some kind → (length words ≡ word_count kind → ⊥)
    → event_by_words words ≡ Err Key
wrong_count words first kind at named other =
    let whole = first-others words first at in
    right_kind words first kind at named ∙ other_count kind (drop 1 words) (λ same. other (ap length whole ∙ same))
