-- The states of a source and a sink through some events.
use Rattle.std.specs.Prelude.{◌≡◌, ℕ, ◌≤◌, List, [], ◌∷◌, Option, take, IfSome}
use Rattle.p25_io.specs.{declared.pair.Pair.{Pair}, Events.{Event, Read, ReadFailed, Wrote, WriteFailed}, Faults.{Rose, counted}}
use Rattle.p25_io.specs.Octets.{Taken, Kept, Appended}

-- a source returned these octets; if it exposes what is left, it returns none only at its end
pub record GaveOctets {S : Type 0} (left : S → Option (List ℕ)) (faults : S → ℕ) (before : S) (octets : List ℕ) (now : S) : Type 0 where
  pub taken : Taken (left before) octets (left now)
  pub ending : octets ≡ [] → IfSome (left before) (λ rest. rest ≡ [])
  pub later : faults before ≤ faults now
  pub none : faults now ≡ faults before

-- a read of it failed
pub record FailedToRead {S : Type 0} (left : S → Option (List ℕ)) (faults : S → ℕ) (before now : S) : Type 0 where
  pub kept : Kept (left before) (left now)
  pub later : faults before ≤ faults now
  pub cause : Rose (faults before) (faults now)
  pub one : faults now ≡ counted (faults before)

-- a sink took these octets
pub record TookOctets {K : Type 0} (written : K → Option (List ℕ)) (faults : K → ℕ) (before : K) (octets : List ℕ) (now : K) : Type 0 where
  pub appended : Appended (written before) octets (written now)
  pub later : faults before ≤ faults now
  pub none : faults now ≡ faults before

-- a write to it failed after these octets
pub record FailedToWrite {K : Type 0} (written : K → Option (List ℕ)) (faults : K → ℕ) (before : K) (octets : List ℕ) (now : K) : Type 0 where
  pub appended : Appended (written before) octets (written now)
  pub later : faults before ≤ faults now
  pub cause : Rose (faults before) (faults now)
  pub one : faults now ≡ counted (faults before)

-- the states of a source through some events: a read at each read, and no change at the writes
abbrev pub SourceGoes : {S : Type 0} → (S → Option (List ℕ)) → (S → ℕ) → S → List Event → S → Type 0
SourceGoes left faults first [] last = last ≡ first
SourceGoes {S = S} left faults first (Read octets ∷ events) last =
    (next : S) × GaveOctets left faults first octets next × SourceGoes left faults next events last
SourceGoes {S = S} left faults first (ReadFailed ∷ events) last =
    (next : S) × FailedToRead left faults first next × SourceGoes left faults next events last
SourceGoes left faults first (Wrote piece ∷ events) last = SourceGoes left faults first events last
SourceGoes left faults first (WriteFailed piece count ∷ events) last = SourceGoes left faults first events last

-- the states of a sink through some events: a write at each write, and no change at the reads
abbrev pub SinkGoes : {K : Type 0} → (K → Option (List ℕ)) → (K → ℕ) → K → List Event → K → Type 0
SinkGoes written faults first [] last = last ≡ first
SinkGoes written faults first (Read octets ∷ events) last = SinkGoes written faults first events last
SinkGoes written faults first (ReadFailed ∷ events) last = SinkGoes written faults first events last
SinkGoes {K = K} written faults first (Wrote piece ∷ events) last =
    (next : K) × TookOctets written faults first piece next × SinkGoes written faults next events last
SinkGoes {K = K} written faults first (WriteFailed piece count ∷ events) last =
    (next : K) × FailedToWrite written faults first (take count piece) next × SinkGoes written faults next events last

-- the source and the sink went through these events, and are still those that were borrowed
pub record PairGoes {S K : Type 0} (left : S → Option (List ℕ)) (source_faults : S → ℕ) (written : K → Option (List ℕ)) (sink_faults : K → ℕ)
    (first : Pair S K) (events : List Event) (last : Pair S K) : Type 0 where
  pub same_source : last.source.ghost_name ≡ first.source.ghost_name
  pub same_sink : last.sink.ghost_name ≡ first.sink.ghost_name
  pub source : SourceGoes left source_faults first.source.now events last.source.now
  pub sink : SinkGoes written sink_faults first.sink.now events last.sink.now
