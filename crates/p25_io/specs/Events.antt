-- The effects of a call on the outside, as a list of events in their order, and the octets that these events read and wrote.
use Rattle.std.specs.{Prelude.{ℕ, ◌+◌, List, [], ◌∷◌, take}, List.{flat_map}}

-- a read returned these octets, or none at the end of the input; a read failed; a write wrote its chunk; a write failed after this number of octets
-- of its chunk
pub data Event : Type 0 where
  Read : (octets : List ℕ) → Event
  ReadFailed : Event
  Wrote : (piece : List ℕ) → Event
  WriteFailed : (piece : List ℕ) → (count : ℕ) → Event

-- the octets that an event read, and those that it wrote
abbrev pub read_by : Event → List ℕ
read_by (Read octets) = octets
read_by ReadFailed = []
read_by (Wrote piece) = []
read_by (WriteFailed piece count) = []

abbrev pub written_by : Event → List ℕ
written_by (Read octets) = []
written_by ReadFailed = []
written_by (Wrote piece) = piece
written_by (WriteFailed piece count) = take count piece

-- all octets that some events read, and all that they wrote
abbrev pub octets_read : List Event → List ℕ
octets_read events = flat_map read_by events

abbrev pub octets_written : List Event → List ℕ
octets_written events = flat_map written_by events

-- the reads among some events, failed or not
abbrev pub read_alone : Event → List Event
read_alone (Read octets) = Read octets ∷ []
read_alone ReadFailed = ReadFailed ∷ []
read_alone (Wrote piece) = []
read_alone (WriteFailed piece count) = []

abbrev pub reads_in : List Event → List Event
reads_in events = flat_map read_alone events

-- the number of events that are writes without a failure, and the number of those that are writes with one
abbrev pub writes_in : List Event → ℕ
writes_in [] = 0
writes_in (Read octets ∷ events) = writes_in events
writes_in (ReadFailed ∷ events) = writes_in events
writes_in (Wrote piece ∷ events) = 1 + writes_in events
writes_in (WriteFailed piece count ∷ events) = writes_in events

abbrev pub write_faults_in : List Event → ℕ
write_faults_in [] = 0
write_faults_in (Read octets ∷ events) = write_faults_in events
write_faults_in (ReadFailed ∷ events) = write_faults_in events
write_faults_in (Wrote piece ∷ events) = write_faults_in events
write_faults_in (WriteFailed piece count ∷ events) = 1 + write_faults_in events
