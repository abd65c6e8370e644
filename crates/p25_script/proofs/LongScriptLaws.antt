-- The words of an event decode to that event, and words that are read are those of their event. By the first word.
use Rattle.std.proofs.Common.{◌≡◌, ℕ, ◌<◌, ◌&&◌, true, false, List, [], ◌∷◌, length, Option, Some, None, Result, Err, Ok, inl, inr, refl, sym, ap, ap₂, subst, ◌∙◌, arith}
use Rattle.std.proofs.{lemmas.Bool.{cases_Bool, cond-true, cond-false, false≢true}, lemmas.Slice.Eq.{bytes_eq-Decides}}
use Rattle.std.specs.{Prelude.{codes}, List.{list_all}, Str.{bytes_eq}}
use Rattle.p25_line.specs.{LineReadings.{value_or_fault}, Words.{is_word}, declared.fault.LineFault.{LineFault}, declared.fault.LineFault.TheVariants.{Kind as WrongKind}}
use Rattle.p25_line.proofs.{LineReadLaws.{WordLaws}, OctetsLaws.{octets-word, octets_up_to-text, text-octets_up_to}}
use Rattle.p25_stations.specs.{declared.step.Event.{Event}, declared.step.Event.TheVariants.{Send}}
use Rattle.p25_script.specs.{Script.{event_by_words, event_words}, LongScript.{IsLongScripted, inner_or_fault, long_event_by_words, long_event_words, long_in, long_message_in, other_event}}
use Rattle.p25_script.proofs.ScriptLaws.{event_laws}
use Rattle.p25_fragments.specs.{LongRuns.{IsNoOffer}, declared.long_step.LongEvent.{LongEvent}, declared.long_step.LongEvent.TheVariants.{Long, Inner}}

-- ---- the words of an event decode to it

words-some : (event : LongEvent) → 0 < length (long_event_words event)
words-some (Long message) = omega arith
words-some (Inner event) = event_laws.some event

words-words : (event : LongEvent) → IsLongScripted event → list_all is_word (long_event_words event) ≡ true
unfolding IsLongScripted
words-words (Long message) fits = ap₂ ◌&&◌ (octets-word message fits.octets) refl
words-words (Inner event) fits = event_laws.are_words event fits.scripted

-- the words of an event of the inner world begin neither with `long` nor with `send`
inner-words : (event : Event) → IsNoOffer event → long_event_by_words (event_words event) ≡ inner_or_fault (event_by_words (event_words event))
unfolding IsNoOffer
inner-words (Send message) is = absurd is
inner-words event is = refl

by_words-words : (event : LongEvent) → IsLongScripted event → long_event_by_words (long_event_words event) ≡ Ok event
unfolding IsLongScripted
by_words-words (Long message) fits = ap (value_or_fault Long) (octets_up_to-text 4000 message fits.short fits.octets)
by_words-words (Inner event) fits = inner-words event fits.no_offer ∙ ap inner_or_fault (event_laws.back event fits.scripted)

-- ---- words that are read are those of their event

-- the decoding of words
abbrev ReadFrom : List (List ℕ) → LongEvent → Type 0
ReadFrom words event = (long_event_words event ≡ words) × IsLongScripted event

from_message : (word : List ℕ) (made : Option (List ℕ)) (event : LongEvent) → long_message_in word ≡ made → value_or_fault Long made ≡ Ok event → ReadFrom (codes "long" ∷ word ∷ []) event
unfolding IsLongScripted
from_message word None event read found = cc found
from_message word (Some message) event read found =
    let is = text-octets_up_to 4000 word message read in
    let same : Long message ≡ event = cc found in
    subst (λ (e : LongEvent). ReadFrom (codes "long" ∷ word ∷ []) e) same (ap (λ w. codes "long" ∷ w ∷ []) is.text, record { short = is.few; octets = is.fits })

from_long : (others : List (List ℕ)) (event : LongEvent) → long_in others ≡ Ok event → ReadFrom (codes "long" ∷ others) event
from_long (word ∷ []) event found = from_message word (long_message_in word) event refl found
from_long others event found = cc found

-- an event whose words begin with another word than `send` offers no message
no-offer : (first : List ℕ) (others : List (List ℕ)) (event : Event) → bytes_eq first (codes "send") ≡ false → event_words event ≡ first ∷ others → IsNoOffer event
unfolding IsNoOffer
no-offer first others (Send message) other words =
    let first_is : first ≡ codes "send" = cc words in
    absurd (false≢true (sym other ∙ ap (λ (x : List ℕ). bytes_eq x (codes "send")) first_is))
no-offer first others event other words = tt

from_inner : (first : List ℕ) (others : List (List ℕ)) (read : Result Event LineFault) (event : LongEvent)
    → bytes_eq first (codes "send") ≡ false → event_by_words (first ∷ others) ≡ read → inner_or_fault read ≡ Ok event →
    ReadFrom (first ∷ others) event
unfolding IsLongScripted
from_inner first others (Err fault) event other read found = cc found
from_inner first others (Ok inner) event other read found =
    let is = event_laws.again (first ∷ others) inner read in
    let same : Inner inner ≡ event = cc found in
    subst (λ (e : LongEvent). ReadFrom (first ∷ others) e) same (is.0, record { no_offer = no-offer first others inner other is.0; scripted = is.1 })

from_other : (first : List ℕ) (others : List (List ℕ)) (event : LongEvent) → other_event first others ≡ Ok event → ReadFrom (first ∷ others) event
from_other first others event found =
    let inner = inner_or_fault (event_by_words (first ∷ others)) in
    elim (cases_Bool (bytes_eq first (codes "send"))) [
      | inl send ↦ let none = cond-true (bytes_eq first (codes "send")) (Err WrongKind) inner send in cc
      | inr other ↦ from_inner first others (event_by_words (first ∷ others)) event other refl (sym (cond-false (bytes_eq first (codes "send")) (Err WrongKind) inner other) ∙ found)
    ]

from_words : (words : List (List ℕ)) (event : LongEvent) → long_event_by_words words ≡ Ok event → ReadFrom words event
from_words [] event found = cc found
from_words (first ∷ others) event found =
    elim (cases_Bool (bytes_eq first (codes "long"))) [
      | inl long ↦
          let read = from_long others event (sym (cond-true (bytes_eq first (codes "long")) (long_in others) (other_event first others) long) ∙ found) in
          (read.0 ∙ ap (λ w. w ∷ others) (sym ((bytes_eq-Decides first (codes "long")).0 long)), read.1)
      | inr other ↦ from_other first others event (sym (cond-false (bytes_eq first (codes "long")) (long_in others) (other_event first others) other) ∙ found)
    ]

-- ---- so lines and events are inverse to each other

pub long_event_laws : WordLaws long_event_words long_event_by_words IsLongScripted
long_event_laws = record { some = words-some; are_words = words-words; back = by_words-words; again = from_words }
