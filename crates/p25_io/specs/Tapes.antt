-- The calls of a tape.
use Rattle.std.specs.Prelude.{◌≡◌, Bool, false, List, [], ◌∷◌, ◌++◌, map, Some}
use Rattle.p25_io.specs.declared.tape.Call.{Call}
use Rattle.p25_io.specs.declared.tape.Call.TheVariants.{Read as ReadCall, ReadFailed as ReadFailedCall, Wrote as WroteCall, WriteFailed as WriteFailedCall}
use Rattle.p25_io.specs.{declared.tape.Tape.{Tape}, Events.{Event, Read, ReadFailed, Wrote, WriteFailed}, Pairs.{SourceGoes, SinkGoes}}

-- a call, as an event
abbrev pub event_of : Call → Event
event_of (ReadCall octets) = Read octets.items
event_of ReadFailedCall = ReadFailed
event_of (WroteCall piece) = Wrote piece.items
event_of (WriteFailedCall piece count) = WriteFailed piece.items count

abbrev pub events_of : List Call → List Event
events_of calls = map event_of calls

-- the calls of a tape, as events, and whether the tape is torn
abbrev pub calls_on : Tape → List Event
calls_on tape = events_of tape.calls.items

abbrev pub is_torn : Tape → Bool
is_torn tape = tape.torn

-- a call was kept, or the tape was torn
pub record IsKept (event : Event) (before after : Tape) : Type 0 where
  pub source : after.source ≡ before.source
  pub sink : after.sink ≡ before.sink
  pub told : is_torn after ≡ false → (is_torn before ≡ false) × (calls_on after ≡ calls_on before ++ event ∷ [])

-- the source and the sink went through these events, even if the tape is torn; and unless it is, they follow those before
pub record TapeGoes (first : Tape) (events : List Event) (last : Tape) : Type 0 where
  pub source : SourceGoes (λ supply. Some supply.left) (λ supply. supply.faults) first.source events last.source
  pub sink : SinkGoes (λ storage. Some storage.written) (λ storage. storage.faults) first.sink events last.sink
  pub told : is_torn last ≡ false → (is_torn first ≡ false) × (calls_on last ≡ calls_on first ++ events)
