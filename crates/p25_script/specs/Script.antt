-- Script lines: the line of an event, and the event of a line.
use Rattle.std.specs.{Prelude.{ℕ, List, [], ◌∷◌, codes, Option, Result, Ok, Err}, List.{find, join_with_byte}, Str.{bytes_eq}}
use Rattle.p25_line.specs.{LineReadings.{keyed_or_fault, line_read, named_or_fault, value_or_fault}, Octets.{octets_text}, declared.fault.LineFault.{LineFault}}
use Rattle.p25_line.specs.declared.fault.LineFault.TheVariants.{Form, Key}
use Rattle.p25_delivery.specs.SoundHalves.{IsMessage}
use Rattle.p25_stations.specs.{declared.step.Event.{Event}, declared.step.Event.TheVariants.{Send, Timeout, Reopen, ToReceiver, ToSender}}
use Rattle.p25_messages.specs.{declared.step_kind.Way.{Way}, declared.step_kind.Way.TheVariants.{Packets, Answers}}
use Rattle.p25_script.specs.{Values.{ArePlaces, message_in, places_in, places_text}, declared.names.EventKind.{EventKind}}
use Rattle.p25_script.specs.declared.names.EventKind.TheVariants.{Send as SendLine, Timeout as TimeoutLine, Reopen as ReopenLine, Deliver as DeliverLine}

-- ---- the words of script lines

-- the word that begins a line of a type
abbrev pub event_word : EventKind → List ℕ
event_word SendLine = codes "send"
event_word TimeoutLine = codes "timeout"
event_word ReopenLine = codes "reopen"
event_word DeliverLine = codes "deliver"

-- the number of words of a line of a type
abbrev pub word_count : EventKind → ℕ
word_count SendLine = 2
word_count TimeoutLine = 1
word_count ReopenLine = 1
word_count DeliverLine = 3

-- all types
abbrev pub event_kinds : List EventKind
event_kinds = SendLine ∷ TimeoutLine ∷ ReopenLine ∷ DeliverLine ∷ []

-- the type that a word names
abbrev pub event_named : List ℕ → Option EventKind
event_named word = find (λ kind. bytes_eq word (event_word kind)) event_kinds

-- the word for a transmission in a direction
abbrev pub way_word : Way → List ℕ
way_word Packets = codes "data"
way_word Answers = codes "answer"

-- both directions
abbrev pub ways : List Way
ways = Packets ∷ Answers ∷ []

-- the direction that a word names
abbrev pub way_named : List ℕ → Option Way
way_named word = find (λ way. bytes_eq word (way_word way)) ways

-- ---- the line of an event

-- events that a script can contain: messages of at most 2,028 octets, and ascending positions below 25,920
abbrev pub IsScripted : Event → Type 0
IsScripted (Send message) = IsMessage message
IsScripted Timeout = Unit {0}
IsScripted Reopen = Unit {0}
IsScripted (ToReceiver places) = ArePlaces places
IsScripted (ToSender places) = ArePlaces places

-- the words of an event
abbrev pub event_words : Event → List (List ℕ)
event_words (Send message) = event_word SendLine ∷ octets_text message ∷ []
event_words Timeout = event_word TimeoutLine ∷ []
event_words Reopen = event_word ReopenLine ∷ []
event_words (ToReceiver places) = event_word DeliverLine ∷ way_word Packets ∷ places_text places ∷ []
event_words (ToSender places) = event_word DeliverLine ∷ way_word Answers ∷ places_text places ∷ []

-- the line of an event, without the end of the line
unfoldable pub event_text : Event → List ℕ
event_text event = join_with_byte 32 (event_words event)

-- ---- the event of a line

-- a delivery in a direction
abbrev pub delivery : Way → List ℕ → Event
delivery Packets places = ToReceiver places
delivery Answers places = ToSender places

-- the event of the words after the first, or the first reason for refusing them
abbrev pub event_in : EventKind → List (List ℕ) → Result Event LineFault
event_in SendLine (message ∷ []) = value_or_fault Send (message_in message)
event_in TimeoutLine [] = Ok Timeout
event_in ReopenLine [] = Ok Reopen
event_in DeliverLine (way ∷ places ∷ []) = keyed_or_fault delivery (way_named way) (places_in places)
event_in kind others = Err Key

-- the decoding of the words of a line by the type that the first of them names, if there is at least one
abbrev pub read_by_kind : {K X : Type 0} → (List ℕ → Option K) → (K → List (List ℕ) → Result X LineFault) → List (List ℕ) → Result X LineFault
read_by_kind named read (first ∷ others) = named_or_fault read (named first) others
read_by_kind named read [] = Err Form

-- the event of the words of a line
abbrev pub event_by_words : List (List ℕ) → Result Event LineFault
event_by_words words = read_by_kind event_named event_in words

-- the event of a line, or the first reason for refusing the line: Long, Form, Kind, Key, Value
abbrev pub event_of : List ℕ → Result Event LineFault
event_of line = line_read event_by_words line
