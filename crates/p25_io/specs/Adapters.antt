-- What contracts see of the adapters over std's readers and writers.
use Rattle.std.specs.{Prelude.{ℕ, List, Option, take}, Io.KnownBytes.{Appends}}
use Rattle.p25_io.specs.{Events.{Event}, declared.read_source.ReadSource.{ReadSource}, declared.write_sink.WriteSink.{WriteSink}}

-- the reader inside
abbrev pub reader_of : {R : Type 0} → ReadSource R → R
reader_of source = source.inner.inner

-- each result of the reader
abbrev pub answers_of : {R : Type 0} → ReadSource R → List Event
answers_of source = source.inner.answers.events

-- the number of its reads that failed
abbrev pub read_faults : {R : Type 0} → ReadSource R → ℕ
read_faults source = source.faults

-- the writer inside
abbrev pub writer_of : {W : Type 0} → WriteSink W → W
writer_of sink = sink.inner

-- the number of its writes that failed
abbrev pub write_faults : {W : Type 0} → WriteSink W → ℕ
write_faults sink = sink.faults

-- the exposed contents of a writer grow by a beginning of the chunk
abbrev pub AppendsBeginning : Option (List ℕ) → Option (List ℕ) → List ℕ → Type 0
AppendsBeginning before now piece = (count : ℕ) × Appends before now (take count piece)
