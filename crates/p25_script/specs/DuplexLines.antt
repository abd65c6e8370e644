-- Lines of a script of the duplex world: the line of an event, and the event of a line.
use Rattle.std.specs.{Prelude.{ℕ, List, [], ◌∷◌, codes, Option, Some, Result, Ok, Err}, List.{find, join_with_byte}, Str.{bytes_eq}}
use Rattle.p25_line.specs.{LineReadings.{keyed_or_fault, line_read, value_or_fault}, Octets.{octets_text}, declared.fault.LineFault.{LineFault}}
use Rattle.p25_line.specs.declared.fault.LineFault.TheVariants.{Key}
use Rattle.p25_delivery.specs.SoundHalves.{IsMessage}
use Rattle.p25_script.specs.{Script.{event_word, event_named, read_by_kind}, Values.{ArePlaces, message_in, places_in, places_text}}
use Rattle.p25_script.specs.declared.names.EventKind.{EventKind}
use Rattle.p25_script.specs.declared.names.EventKind.TheVariants.{Send as SendLine, Timeout as TimeoutLine, Reopen as ReopenLine, Deliver as DeliverLine}
use Rattle.p25_script.specs.{declared.duplex_read.DuplexStart.{DuplexStart}, declared.duplex_read.DuplexStart.TheVariants.{Acts, Delivery}}
use Rattle.p25_duplex.specs.{declared.side.Side.{Side}, declared.side.Side.TheVariants.{A, B}, DuplexSteps.{side_word}}
use Rattle.p25_duplex.specs.{declared.event.DuplexEvent.{DuplexEvent}, declared.event.DuplexEvent.TheVariants.{Send, Timeout, Reopen, Deliver}}

-- ---- the words of the lines

-- the first word of a line: the letter of the side that acts, or that something is delivered
abbrev pub start_word : DuplexStart → List ℕ
start_word (Acts side) = side_word side
start_word Delivery = event_word DeliverLine

-- all first words
abbrev pub duplex_starts : List DuplexStart
duplex_starts = Acts A ∷ Acts B ∷ Delivery ∷ []

-- the meaning of a first word
abbrev pub start_named : List ℕ → Option DuplexStart
start_named word = find (λ start. bytes_eq word (start_word start)) duplex_starts

-- the word for the direction to a side: from the other letter to its own
abbrev pub direction_word : Side → List ℕ
direction_word A = codes "ba"
direction_word B = codes "ab"

-- the side to which the direction of a word leads
abbrev pub hearer_named : List ℕ → Option Side
hearer_named word = find (λ to. bytes_eq word (direction_word to)) (A ∷ B ∷ [])

-- ---- the line of an event

-- events that a script can contain: messages of at most 2,028 octets, and ascending positions below 25,920
abbrev pub IsDuplexScripted : DuplexEvent → Type 0
IsDuplexScripted (Send side message) = IsMessage message
IsDuplexScripted (Timeout side) = Unit {0}
IsDuplexScripted (Reopen side) = Unit {0}
IsDuplexScripted (Deliver to places) = ArePlaces places

-- the words of an event
abbrev pub duplex_words : DuplexEvent → List (List ℕ)
duplex_words (Send side message) = side_word side ∷ event_word SendLine ∷ octets_text message ∷ []
duplex_words (Timeout side) = side_word side ∷ event_word TimeoutLine ∷ []
duplex_words (Reopen side) = side_word side ∷ event_word ReopenLine ∷ []
duplex_words (Deliver to places) = event_word DeliverLine ∷ direction_word to ∷ places_text places ∷ []

-- the line of an event, without the end of the line
unfoldable pub duplex_text : DuplexEvent → List ℕ
duplex_text event = join_with_byte 32 (duplex_words event)

-- ---- the event of a line

-- an event of a side by the words after its second
abbrev pub event_of_side : Side → Option EventKind → List (List ℕ) → Result DuplexEvent LineFault
event_of_side side (Some SendLine) (message ∷ []) = value_or_fault (Send side) (message_in message)
event_of_side side (Some TimeoutLine) [] = Ok (Timeout side)
event_of_side side (Some ReopenLine) [] = Ok (Reopen side)
event_of_side side kind others = Err Key

-- the event of the words after the first, or the first reason for refusing them
abbrev pub event_behind : DuplexStart → List (List ℕ) → Result DuplexEvent LineFault
event_behind (Acts side) (word ∷ others) = event_of_side side (event_named word) others
event_behind Delivery (direction ∷ places ∷ []) = keyed_or_fault Deliver (hearer_named direction) (places_in places)
event_behind start others = Err Key

-- the event of the words of a line
abbrev pub duplex_by_words : List (List ℕ) → Result DuplexEvent LineFault
duplex_by_words words = read_by_kind start_named event_behind words

-- the event of a line, or the first reason for refusing the line: Long, Form, Kind, Key, Value
abbrev pub duplex_event_of : List ℕ → Result DuplexEvent LineFault
duplex_event_of line = line_read duplex_by_words line
