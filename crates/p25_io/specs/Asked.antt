-- The results of a writer, and what they come to.
use Rattle.std.specs.{Prelude.{◌≡◌, ℕ, ◌+◌, List, [], ◌∷◌, ◌++◌, Option}, Io.KnownBytes.{Appends}}
use Rattle.p25_io.specs.{declared.asked.AskedWriter.{AskedWriter}, Events.{Event, Read, ReadFailed, Wrote, WriteFailed, octets_written, write_faults_in, writes_in}}

-- a writer took these octets, with these results of writes and of flushes
pub record Answered {W : Type 0} (contents : W → Option (List ℕ)) (before : AskedWriter W) (octets : List ℕ) (to_writes to_flushes : List Event)
    (now : AskedWriter W) : Type 0 where
  pub wrote : Appends (contents before.inner) (contents now.inner) octets
  pub writes : now.writes.events ≡ before.writes.events ++ to_writes
  pub flushes : now.flushes.events ≡ before.flushes.events ++ to_flushes

-- the number of results of writes that are faults: a write that failed, or one that took nothing, because a writer is called only with octets
abbrev pub refusals_in : List Event → ℕ
refusals_in [] = 0
refusals_in (Wrote [] ∷ events) = 1 + refusals_in events
refusals_in (Wrote (octet ∷ octets) ∷ events) = refusals_in events
refusals_in (WriteFailed piece count ∷ events) = 1 + refusals_in events
refusals_in (Read octets ∷ events) = refusals_in events
refusals_in (ReadFailed ∷ events) = refusals_in events

-- the number of results of a writer that are faults, of a write or of a flush
abbrev pub faults_of : {W : Type 0} → AskedWriter W → ℕ
faults_of writer = refusals_in writer.writes.events + write_faults_in writer.flushes.events

-- a writer took these octets, and had this many flushes and faults
pub record Took {W : Type 0} (contents : W → Option (List ℕ)) (before : AskedWriter W) (octets : List ℕ) (flushes faults : ℕ) (now : AskedWriter W)
    : Type 0 where
  pub wrote : Appends (contents before.inner) (contents now.inner) octets
  pub taken : octets_written now.writes.events ≡ octets_written before.writes.events ++ octets
  pub flushed : writes_in now.flushes.events ≡ writes_in before.flushes.events + flushes
  pub failed : faults_of now ≡ faults_of before + faults
