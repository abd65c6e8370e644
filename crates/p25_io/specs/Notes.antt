-- The event of a note.
use Rattle.p25_io.specs.{Events.{Event, Read, ReadFailed, Wrote, WriteFailed}, declared.history.Note.{Note}}
use Rattle.p25_io.specs.declared.history.Note.TheVariants as note

-- a call, as an event
abbrev pub noted_event : Note → Event
noted_event (note.Read octets) = Read octets.now
noted_event note.ReadFailed = ReadFailed
noted_event (note.Wrote piece) = Wrote piece.now
noted_event (note.WriteFailed piece count) = WriteFailed piece.now count
