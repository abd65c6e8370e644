-- The states of a reader and a writer of std through some events.
use Rattle.std.specs.{Prelude.{◌≡◌, ℕ, ◌+◌, List, [], ◌++◌, Option, Some, None, Contains, IfSome}, Io.KnownBytes.{Appends, Consumes, IsAtEnd}}
use Rattle.p25_io.specs.{Asked.{faults_of}, declared.streams.Streams.{Streams}}
use Rattle.p25_io.specs.Events.{Event, Read, octets_read, octets_written, reads_in, write_faults_in, writes_in}

-- the reader, the writer, and the events of their port
abbrev pub reader_in : {R W : Type 0} → Streams R W → R
reader_in streams = streams.reader.inner

abbrev pub writer_in : {R W : Type 0} → Streams R W → W
writer_in streams = streams.writer.inner

abbrev pub events_on : {R W : Type 0} → Streams R W → List Event
events_on streams = streams.history.events

-- each result of the reader, and each buffer with which it was called, as a write of that buffer
abbrev pub answers_on : {R W : Type 0} → Streams R W → List Event
answers_on streams = streams.reader.answers.events

abbrev pub buffers_on : {R W : Type 0} → Streams R W → List Event
buffers_on streams = streams.reader.buffers.events

-- the octets that the writer took, the number of its flushes, and the number of its writes and flushes that failed; a write that takes nothing is one
-- that failed
abbrev pub taken_on : {R W : Type 0} → Streams R W → List ℕ
taken_on streams = octets_written streams.writer.writes.events

abbrev pub flushed_on : {R W : Type 0} → Streams R W → ℕ
flushed_on streams = writes_in streams.writer.flushes.events

abbrev pub faults_on : {R W : Type 0} → Streams R W → ℕ
faults_on streams = faults_of streams.writer

-- the final state as far as it is known from the initial one: octets exposed at first are exposed to the end, and nothing is known of hidden ones
abbrev pub known : Option (List ℕ) → Option (List ℕ) → Option (List ℕ)
known None last = None
known (Some octets) last = last

-- these events were made on the streams, after those before. As far as the reader exposes its octets, those read were its first, and it has none left
-- if a read returned none. As far as the writer exposes its octets, those written are its last. The reader returned exactly the results of the reads,
-- octet by octet and fault by fault. The writer took exactly the octets that were written, was flushed once for each write that did not fail, and
-- failed once for each that did
pub record StreamsGo {R W : Type 0} (remaining : R → Option (List ℕ)) (contents : W → Option (List ℕ))
    (first : Streams R W) (events : List Event) (last : Streams R W) : Type 0 where
  pub made : events_on last ≡ events_on first ++ events
  pub read : Consumes (remaining (reader_in first)) (remaining (reader_in last)) (octets_read events)
  pub ending : Contains events (Read []) → IfSome (remaining (reader_in first)) (λ left. IsAtEnd (remaining (reader_in last)))
  pub wrote : Appends (contents (writer_in first)) (contents (writer_in last)) (octets_written events)
  pub answered : answers_on last ≡ answers_on first ++ reads_in events
  pub taken : taken_on last ≡ taken_on first ++ octets_written events
  pub flushed : flushed_on last ≡ flushed_on first + writes_in events
  pub failed : faults_on last ≡ faults_on first + write_faults_in events
