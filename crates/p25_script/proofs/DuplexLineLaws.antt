-- The line of an event decodes to that event, and a line that is read is the line of its event. By cases on the result of each step of reading.
use Rattle.std.proofs.Common.{◌≡◌, ℕ, ◌<◌, ◌&&◌, true, List, [], ◌∷◌, length, Option, Some, None, Ok, refl, ap, ap₂, subst, ◌∙◌, arith}
use Rattle.std.specs.List.{list_all}
use Rattle.p25_line.specs.{LineReadings.{keyed_or_fault, value_or_fault}, Words.{is_word}}
use Rattle.p25_line.proofs.{LineReadLaws.{WordLaws}, WordsLaws.{named-word}}
use Rattle.p25_script.specs.{declared.names.EventKind.{EventKind}, declared.names.EventKind.TheVariants.{Send as SendLine, Timeout as TimeoutLine, Reopen as ReopenLine, Deliver as DeliverLine}}
use Rattle.p25_script.specs.{Script.{event_kinds, event_named, event_word}, Values.{message_in, places_in}}
use Rattle.p25_script.specs.DuplexLines.{IsDuplexScripted, direction_word, duplex_by_words, duplex_starts, duplex_words, event_behind, event_of_side, hearer_named, start_word}
use Rattle.p25_script.specs.{declared.duplex_read.DuplexStart.{DuplexStart}, declared.duplex_read.DuplexStart.TheVariants.{Acts, Delivery}}
use Rattle.p25_script.proofs.{LineLaws.{from-words}, ValueLaws.{message-message_in, message-word, message_in-text, places-places_in, places-word, places_in-text}}
use Rattle.p25_duplex.specs.{declared.side.Side.{Side}, declared.side.Side.TheVariants.{A, B}, DuplexSteps.{side_word}, declared.event.DuplexEvent.{DuplexEvent}}
use Rattle.p25_duplex.specs.{declared.event.DuplexEvent.TheVariants.{Send, Timeout, Reopen, Deliver}, DuplexRuns.{IsDuplexEvent}}

-- ---- the line of an event decodes to it

-- the words of an event are words
words-words : (event : DuplexEvent) → IsDuplexScripted event → list_all is_word (duplex_words event) ≡ true
words-words (Send A message) fits = ap₂ ◌&&◌ (message-word message fits) refl
words-words (Send B message) fits = ap₂ ◌&&◌ (message-word message fits) refl
words-words (Timeout A) fits = refl
words-words (Reopen A) fits = refl
words-words (Deliver A places) fits = ap₂ ◌&&◌ (places-word places fits) refl
words-words (Deliver B places) fits = ap₂ ◌&&◌ (places-word places fits) refl
words-words event fits = refl

words-some : (event : DuplexEvent) → 0 < length (duplex_words event)
words-some (Send side message) = omega arith
words-some event = omega arith

-- and they decode to it
by_words-words : (event : DuplexEvent) → IsDuplexScripted event → duplex_by_words (duplex_words event) ≡ Ok event
by_words-words (Send A message) fits = ap (value_or_fault (Send A)) (message_in-text message fits)
by_words-words (Send B message) fits = ap (value_or_fault (Send B)) (message_in-text message fits)
by_words-words (Timeout A) fits = refl
by_words-words (Reopen A) fits = refl
by_words-words (Deliver A places) fits = ap (value_or_fault (Deliver A)) (places_in-text places fits)
by_words-words (Deliver B places) fits = ap (value_or_fault (Deliver B)) (places_in-text places fits)
by_words-words event fits = refl

-- ---- a line that is read is the line of its event

-- the decoding of words
abbrev ReadFrom : List (List ℕ) → DuplexEvent → Type 0
ReadFrom words event = (duplex_words event ≡ words) × IsDuplexScripted event

from_message : (side : Side) (word : List ℕ) (made : Option (List ℕ)) (event : DuplexEvent)
    → message_in word ≡ made → value_or_fault (Send side) made ≡ Ok event → ReadFrom (side_word side ∷ event_word SendLine ∷ word ∷ []) event
from_message side word None event read found = cc found
from_message side word (Some message) event read found =
    let facts = message-message_in word message read in
    let same : Send side message ≡ event = cc found in
    subst (λ (e : DuplexEvent). ReadFrom (side_word side ∷ event_word SendLine ∷ word ∷ []) e) same (ap (λ w. side_word side ∷ event_word SendLine ∷ w ∷ []) facts.0, facts.1)

from_kind : (side : Side) (kind : EventKind) (others : List (List ℕ)) (event : DuplexEvent)
    → event_of_side side (Some kind) others ≡ Ok event → ReadFrom (side_word side ∷ event_word kind ∷ others) event
from_kind side SendLine (word ∷ []) event found = from_message side word (message_in word) event refl found
from_kind side TimeoutLine [] event found =
    let same : Timeout side ≡ event = cc found in
    subst (λ (e : DuplexEvent). ReadFrom (side_word side ∷ event_word TimeoutLine ∷ []) e) same (refl, tt)
from_kind side ReopenLine [] event found =
    let same : Reopen side ≡ event = cc found in
    subst (λ (e : DuplexEvent). ReadFrom (side_word side ∷ event_word ReopenLine ∷ []) e) same (refl, tt)
from_kind side kind others event found = cc found

from_side : (side : Side) (second : List ℕ) (others : List (List ℕ)) (kind : Option EventKind) (event : DuplexEvent) → event_named second ≡ kind → event_of_side side kind others ≡ Ok event →
    ReadFrom (side_word side ∷ second ∷ others) event
from_side side second others None event named found = cc found
from_side side second others (Some kind) event named found =
    let word = named-word event_word event_kinds second kind named in
    let read = from_kind side kind others event found in
    (read.0 ∙ ap (λ w. side_word side ∷ w ∷ others) word, read.1)

from_delivery : (direction word : List ℕ) (to : Option Side) (made : Option (List ℕ)) (event : DuplexEvent)
    → hearer_named direction ≡ to → places_in word ≡ made → keyed_or_fault Deliver to made ≡ Ok event →
    ReadFrom (event_word DeliverLine ∷ direction ∷ word ∷ []) event
from_delivery direction word (Some to) (Some places) event named read found =
    let facts = places-places_in word places read in
    let way = named-word direction_word (A ∷ B ∷ []) direction to named in
    let words : duplex_words (Deliver to places) ≡ event_word DeliverLine ∷ direction ∷ word ∷ [] = ap₂ (λ v w. event_word DeliverLine ∷ v ∷ w ∷ []) way facts.0 in
    let same : Deliver to places ≡ event = cc found in
    subst (λ (e : DuplexEvent). ReadFrom (event_word DeliverLine ∷ direction ∷ word ∷ []) e) same (words, facts.1)
from_delivery direction word to made event named read found = cc found

from_others : (start : DuplexStart) (others : List (List ℕ)) (event : DuplexEvent) → event_behind start others ≡ Ok event → ReadFrom (start_word start ∷ others) event
from_others (Acts side) (second ∷ others) event found = from_side side second others (event_named second) event refl found
from_others Delivery (direction ∷ word ∷ []) event found = from_delivery direction word (hearer_named direction) (places_in word) event refl refl found
from_others start others event found = cc found

-- ---- so lines and events are inverse to each other

pub duplex_laws : WordLaws duplex_words duplex_by_words IsDuplexScripted
duplex_laws = record { some = words-some; are_words = words-words; back = by_words-words; again = from-words duplex_words IsDuplexScripted start_word duplex_starts event_behind from_others }

-- and the laws of the duplex world hold for it
pub is-event : (event : DuplexEvent) → IsDuplexScripted event → IsDuplexEvent event
unfolding IsDuplexEvent
is-event (Send side message) fits = fits
is-event event fits = tt
