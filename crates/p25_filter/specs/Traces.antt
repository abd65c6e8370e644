-- The order of reads and writes in the work on an input: the events that may follow those before them, and the end of the work.
use Rattle.std.specs.Prelude.{◌≡◌, ℕ, ◌<◌, ◌≤◌, Bool, true, false, List, [], ◌∷◌, ◌++◌, length, take, Contains, Some, None}
use Rattle.p25_io.specs.Events.{Event, Read, ReadFailed, Wrote, WriteFailed}
use Rattle.p25_filter.specs.{declared.ending.Ending.{Ending}, declared.ending.FilterEnd.{FilterEnd}}
use Rattle.p25_filter.specs.{declared.ending.FilterEnd.TheVariants.{Ended, ReadFault, WriteFault, TooLong, Memory}, Futures.{Future}}
use Rattle.p25_filter.specs.Runs.{input_most, read_most}

-- more octets may come; or the input has ended; or a read or a write failed
pub data Phase : Type 0 where
  Going : Phase
  Over : Phase
  Broken : Phase

-- the state of the work: the octets that were read and the text that was written
pub record Standing : Type 0 where
  pub phase : Phase
  pub octets : List ℕ
  pub text : List ℕ

abbrev pub standing_at : Phase → List ℕ → List ℕ → Standing
standing_at phase octets text = record { phase = phase; octets = octets; text = text }

-- at first
abbrev pub at_first : Standing
at_first = standing_at Going [] []

-- a read that returns nothing is the end of the input
abbrev pub phase_by : List ℕ → Phase
phase_by [] = Over
phase_by (octet ∷ octets) = Going

-- the state after one more event, and after some
abbrev pub standing_after : Standing → Event → Standing
standing_after at (Read octets) = standing_at (phase_by octets) (at.octets ++ octets) at.text
standing_after at ReadFailed = standing_at Broken at.octets at.text
standing_after at (Wrote piece) = standing_at at.phase at.octets (at.text ++ piece)
standing_after at (WriteFailed piece count) = standing_at Broken at.octets (at.text ++ take count piece)

abbrev pub after_all : Standing → List Event → Standing
after_all at [] = at
after_all at (event ∷ events) = after_all (standing_after at event) events

-- a text is the beginning of a whole
pub record Begins (text whole : List ℕ) : Type 0 where
  pub rest : List ℕ
  pub is : whole ≡ text ++ rest

-- a text is decided: it is a beginning of the output whatever octets come after those that were read, none of which past the most counts; or of the
-- output for all of them
abbrev pub IsDecided : Future → Phase → List ℕ → List ℕ → Type 0
IsDecided future Going octets text = (ended : Bool) (more : List ℕ) → Begins text (future.writes ended (take input_most octets ++ more))
IsDecided future Over octets text = Begins text (future.writes true octets)
IsDecided future Broken octets text = ⊥

-- all output that the octets read so far determine is written, they cause no refusal, and they are not too many
pub record IsSettled (future : Future) (at : Standing) : Type 0 where
  pub going : at.phase ≡ Going
  pub few : length at.octets ≤ input_most
  pub ends : future.ends false at.octets ≡ None
  pub wrote : at.text ≡ future.writes false at.octets

-- a chunk is not empty, and decided after the text that was written
pub record IsDue (future : Future) (at : Standing) (piece : List ℕ) : Type 0 where
  pub some : 0 < length piece
  pub decided : IsDecided future at.phase at.octets (at.text ++ piece)

-- the event that may come next: a read only if all decided output is written, a write only of decided output, and nothing after a fault
abbrev pub MayCome : Future → Standing → Event → Type 0
MayCome future at (Read octets) = IsSettled future at × (length octets ≤ read_most)
MayCome future at ReadFailed = IsSettled future at
MayCome future at (Wrote piece) = IsDue future at piece
MayCome future at (WriteFailed piece count) = IsDue future at piece × (count ≤ length piece)

-- each event of a list may come after those before it
abbrev pub IsLive : Future → Standing → List Event → Type 0
IsLive future at [] = Unit {0}
IsLive future at (event ∷ events) = MayCome future at event × IsLive future (standing_after at event) events

-- the input is refused, whatever octets come, and all output before that is written; or it has ended, and all output is written
abbrev pub IsFinalAt : Future → Phase → List ℕ → List ℕ → Ending → Type 0
IsFinalAt future Going octets text ending =
    ((ended : Bool) (more : List ℕ) → future.ends ended (take input_most octets ++ more) ≡ Some ending)
    × ((ended : Bool) (more : List ℕ) → future.writes ended (take input_most octets ++ more) ≡ text)
IsFinalAt future Over octets text ending = (future.ends true octets ≡ Some ending) × (text ≡ future.writes true octets)
IsFinalAt future Broken octets text ending = ⊥

-- the input is too long: its first octets cause no refusal, and the output that they determine is written
pub record IsTooLongAt (future : Future) (at : Standing) : Type 0 where
  pub going : at.phase ≡ Going
  pub many : input_most < length at.octets
  pub ends : future.ends false (take input_most at.octets) ≡ None
  pub wrote : at.text ≡ future.writes false (take input_most at.octets)

-- an allocation may fail after the text written
abbrev pub IsMemoryAt : Future → Phase → List ℕ → List ℕ → Type 0
IsMemoryAt future Going octets text = Contains (future.pauses false (take input_most octets)) text
IsMemoryAt future Over octets text = Contains (future.pauses true octets) text
IsMemoryAt future Broken octets text = ⊥

-- the last event is this one
abbrev pub EndsWith : List Event → Event → Type 0
EndsWith events last = (before : List Event) × (events ≡ before ++ last ∷ [])

-- a read failed in these events, or a write
abbrev pub HasReadFault : List Event → Type 0
HasReadFault [] = ⊥
HasReadFault (Read octets ∷ events) = HasReadFault events
HasReadFault (ReadFailed ∷ events) = Unit {0}
HasReadFault (Wrote piece ∷ events) = HasReadFault events
HasReadFault (WriteFailed piece count ∷ events) = HasReadFault events

abbrev pub HasWriteFault : List Event → Type 0
HasWriteFault [] = ⊥
HasWriteFault (Read octets ∷ events) = HasWriteFault events
HasWriteFault (ReadFailed ∷ events) = HasWriteFault events
HasWriteFault (Wrote piece ∷ events) = HasWriteFault events
HasWriteFault (WriteFailed piece count ∷ events) = Unit {0}

-- no event is a write
abbrev pub AreReads : List Event → Type 0
AreReads [] = Unit {0}
AreReads (Read octets ∷ events) = AreReads events
AreReads (ReadFailed ∷ events) = AreReads events
AreReads (Wrote piece ∷ events) = ⊥
AreReads (WriteFailed piece count ∷ events) = ⊥

-- the condition of an end on the events, and on the octets read and the text written
abbrev pub EndsAs : Future → List Event → Standing → FilterEnd → Type 0
EndsAs future events at (Ended ending) = IsFinalAt future at.phase at.octets at.text ending
EndsAs future events at ReadFault = EndsWith events ReadFailed
EndsAs future events at WriteFault = (piece : List ℕ) × (count : ℕ) × EndsWith events (WriteFailed piece count)
EndsAs future events at TooLong = IsTooLongAt future at
EndsAs future events at Memory = IsMemoryAt future at.phase at.octets at.text

-- the work from the first event to the last
pub record IsRun (future : Future) (events : List Event) (end : FilterEnd) : Type 0 where
  pub live : IsLive future at_first events
  pub ends : EndsAs future events (after_all at_first events) end
