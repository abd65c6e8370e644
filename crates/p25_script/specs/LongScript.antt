-- Script lines of long messages: the line of an event, and the event of a line.
use Rattle.std.specs.{Prelude.{ℕ, ◌≤◌, if◌then◌else◌, List, [], ◌∷◌, length, codes, Option, Result, Ok, Err}, List.{join_with_byte}, Str.{bytes_eq}}
use Rattle.p25_line.specs.{Values.{AllOctets}, LineReadings.{line_read, value_or_fault}, Octets.{octets_text, octets_up_to}}
use Rattle.p25_line.specs.{declared.fault.LineFault.{LineFault}, declared.fault.LineFault.TheVariants.{Form, Key, Kind as WrongKind}}
use Rattle.p25_stations.specs.declared.step.Event.{Event}
use Rattle.p25_script.specs.Script.{IsScripted, event_by_words, event_words}
use Rattle.p25_fragments.specs.{LongRuns.{IsNoOffer}, declared.long_step.LongEvent.{LongEvent}, declared.long_step.LongEvent.TheVariants.{Long, Inner}}

-- ---- the line of an event

-- a long message of octets
pub record IsLongMessage (message : List ℕ) : Type 0 where
  pub short : length message ≤ 4000
  pub octets : AllOctets message

-- an event of the inner world that a script can contain
pub record IsInnerEvent (event : Event) : Type 0 where
  pub no_offer : IsNoOffer event
  pub scripted : IsScripted event

-- an event that a script of long messages can contain
unfoldable pub IsLongScripted : LongEvent → Type 0
IsLongScripted (Long message) = IsLongMessage message
IsLongScripted (Inner event) = IsInnerEvent event

-- the words of an event
abbrev pub long_event_words : LongEvent → List (List ℕ)
long_event_words (Long message) = codes "long" ∷ octets_text message ∷ []
long_event_words (Inner event) = event_words event

-- the line of an event, without the end of the line
unfoldable pub long_event_text : LongEvent → List ℕ
long_event_text event = join_with_byte 32 (long_event_words event)

-- ---- the event of a line

-- the long message that a word is: 2 to 8,000 digits, or `-`
abbrev pub long_message_in : List ℕ → Option (List ℕ)
long_message_in word = octets_up_to 4000 word

-- the event of the words after `long`
abbrev pub long_in : List (List ℕ) → Result LongEvent LineFault
long_in (word ∷ []) = value_or_fault Long (long_message_in word)
long_in others = Err Key

-- the event of the inner world, as one of long messages
abbrev pub inner_or_fault : Result Event LineFault → Result LongEvent LineFault
inner_or_fault (Ok event) = Ok (Inner event)
inner_or_fault (Err fault) = Err fault

-- the event of words that begin with another word than `long`: not with `send`
abbrev pub other_event : List ℕ → List (List ℕ) → Result LongEvent LineFault
other_event first others = if bytes_eq first (codes "send") then Err WrongKind else inner_or_fault (event_by_words (first ∷ others))

-- the event of the first word of a line and the others
abbrev pub long_event_by : List ℕ → List (List ℕ) → Result LongEvent LineFault
long_event_by first others = if bytes_eq first (codes "long") then long_in others else other_event first others

-- the event of the words of a line, at least one
abbrev pub long_event_by_words : List (List ℕ) → Result LongEvent LineFault
long_event_by_words (first ∷ others) = long_event_by first others
long_event_by_words [] = Err Form

-- the event of a line, or the first reason for refusing the line: Long, Form, Kind, Key, Value
abbrev pub long_event_of : List ℕ → Result LongEvent LineFault
long_event_of line = line_read long_event_by_words line
