-- The line of an event decodes to that event, and a line that is read is the line of its event. By cases on the result of each step of reading.
use Rattle.std.proofs.Common.{◌≡◌, ℕ, ◌+◌, ◌*◌, ◌<◌, ◌≤◌, ◌&&◌, true, List, [], ◌∷◌, length, Option, Some, None, Ok, refl, ap, ap₂, subst, ◌∙◌, arith}
use Rattle.std.specs.List.{list_all}
use Rattle.p25_line.specs.{LineReadings.{keyed_or_fault, value_or_fault}, Words.{is_word}}
use Rattle.p25_line.proofs.{LineReadLaws.{WordLaws}, WordsLaws.{named-word}}
use Rattle.p25_stations.specs.{Runs.{IsEvent}, declared.step.Event.{Event}, declared.step.Event.TheVariants.{Send, Timeout, Reopen, ToReceiver, ToSender}}
use Rattle.p25_delivery.specs.SoundHalves.{IsMessage}
use Rattle.p25_messages.specs.{declared.step_kind.Way.{Way}, declared.step_kind.Way.TheVariants.{Packets, Answers}}
use Rattle.p25_script.specs.Script.{IsScripted, delivery, event_by_words, event_in, event_kinds, event_text, event_word, event_words, way_named, way_word, ways}
use Rattle.p25_script.specs.{Values.{ArePlaces, message_in, places_in, places_text}, declared.names.EventKind.{EventKind}}
use Rattle.p25_script.specs.declared.names.EventKind.TheVariants.{Send as SendLine, Timeout as TimeoutLine, Reopen as ReopenLine, Deliver as DeliverLine}
use Rattle.p25_script.proofs.LineLaws.{from-words}
use Rattle.p25_script.proofs.ValueLaws.{length-message_text, length-places_text, message-message_in, message-word, message_in-text, places-places_in, places-word, places_in-text}

-- ---- the line of an event decodes to it

pub event_words-words : (event : Event) → IsScripted event → list_all is_word (event_words event) ≡ true
event_words-words (Send message) fits = ap₂ ◌&&◌ (message-word message fits) refl
event_words-words (ToReceiver places) fits = ap₂ ◌&&◌ (places-word places fits) refl
event_words-words (ToSender places) fits = ap₂ ◌&&◌ (places-word places fits) refl
event_words-words event fits = refl

pub event_words-some : (event : Event) → 0 < length (event_words event)
event_words-some (Send message) = omega arith
event_words-some event = omega arith

-- and they decode to it
event_by_words-words : (event : Event) → IsScripted event → event_by_words (event_words event) ≡ Ok event
event_by_words-words (Send message) fits = ap (value_or_fault Send) (message_in-text message fits)
event_by_words-words (ToReceiver places) fits = ap (value_or_fault ToReceiver) (places_in-text places fits)
event_by_words-words (ToSender places) fits = ap (value_or_fault ToSender) (places_in-text places fits)
event_by_words-words event fits = refl

-- ---- a line that is read is the line of its event

-- the decoding of the words after the first
abbrev ReadFrom : List (List ℕ) → Event → Type 0
ReadFrom words event = (event_words event ≡ words) × IsScripted event

from_send : (word : List ℕ) (made : Option (List ℕ)) (event : Event) → message_in word ≡ made → value_or_fault Send made ≡ Ok event → ReadFrom (event_word SendLine ∷ word ∷ []) event
from_send word None event read found = cc found
from_send word (Some message) event read found =
    let facts = message-message_in word message read in
    let same : Send message ≡ event = cc found in
    subst (λ (e : Event). ReadFrom (event_word SendLine ∷ word ∷ []) e) same (ap (λ w. event_word SendLine ∷ w ∷ []) facts.0, facts.1)

delivered_words : (way : Way) (places word : List ℕ) → places_text places ≡ word → event_words (delivery way places) ≡ event_word DeliverLine ∷ way_word way ∷ word ∷ []
delivered_words Packets places word same = ap (λ w. event_word DeliverLine ∷ way_word Packets ∷ w ∷ []) same
delivered_words Answers places word same = ap (λ w. event_word DeliverLine ∷ way_word Answers ∷ w ∷ []) same

delivered_fits : (way : Way) (places : List ℕ) → ArePlaces places → IsScripted (delivery way places)
delivered_fits Packets places are = are
delivered_fits Answers places are = are

way-way_named : (word : List ℕ) (way : Way) → way_named word ≡ Some way → way_word way ≡ word
way-way_named word way found = named-word way_word ways word way found

from_delivery : (first word : List ℕ) (way : Option Way) (made : Option (List ℕ)) (event : Event) → way_named first ≡ way → places_in word ≡ made
    → keyed_or_fault delivery way made ≡ Ok event → ReadFrom (event_word DeliverLine ∷ first ∷ word ∷ []) event
from_delivery first word (Some way) (Some places) event named read found =
    let facts = places-places_in word places read in
    let words = delivered_words way places word facts.0 ∙ ap (λ w. event_word DeliverLine ∷ w ∷ word ∷ []) (way-way_named first way named) in
    let same : delivery way places ≡ event = cc found in
    subst (λ (e : Event). ReadFrom (event_word DeliverLine ∷ first ∷ word ∷ []) e) same (words, delivered_fits way places facts.1)
from_delivery first word way made event named read found = cc found

from_others : (kind : EventKind) (others : List (List ℕ)) (event : Event) → event_in kind others ≡ Ok event → ReadFrom (event_word kind ∷ others) event
from_others SendLine (word ∷ []) event found = from_send word (message_in word) event refl found
from_others TimeoutLine [] event found =
    let same : Timeout ≡ event = cc found in subst (λ (e : Event). ReadFrom (event_word TimeoutLine ∷ []) e) same (refl, tt)
from_others ReopenLine [] event found =
    let same : Reopen ≡ event = cc found in subst (λ (e : Event). ReadFrom (event_word ReopenLine ∷ []) e) same (refl, tt)
from_others DeliverLine (first ∷ word ∷ []) event found = from_delivery first word (way_named first) (places_in word) event refl refl found
from_others kind others event found = cc found

-- ---- so lines and events are inverse to each other

pub event_laws : WordLaws event_words event_by_words IsScripted
event_laws = record { some = event_words-some; are_words = event_words-words; back = event_by_words-words; again = from-words event_words IsScripted event_word event_kinds event_in from_others }

-- ---- the lengths of lines

pub length-send : (message : List ℕ) → IsMessage message → length (event_text (Send message)) ≤ 4061
unfolding event_text
length-send message fits = omega (arith, length-message_text message fits)

pub length-data : (places : List ℕ) → ArePlaces places → length (event_text (ToReceiver places)) ≤ 6 * length places + 14
unfolding event_text
length-data places are = omega (arith, length-places_text places are)

pub length-answer : (places : List ℕ) → ArePlaces places → length (event_text (ToSender places)) ≤ 6 * length places + 16
unfolding event_text
length-answer places are = omega (arith, length-places_text places are)

-- the laws of the world hold for the events that a script can contain
pub IsEvent-IsScripted : (event : Event) → IsScripted event → IsEvent event
unfolding IsEvent
IsEvent-IsScripted (Send message) fits = fits
IsEvent-IsScripted event fits = tt
