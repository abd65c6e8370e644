-- The exposed octets of a source and a sink, and of streams, through some events: one record for both, by an induction on the events for each of a
-- source and a sink, and at once for streams.
use Rattle.std.proofs.Common.{◌≡◌, ℕ, ◌≤◌, zero, List, [], ◌∷◌, ◌++◌, length, Option, Some, None, refl, ap, sym, subst, arith, length-append}
use Rattle.std.proofs.lemmas.List.{nil_from_length}
use Rattle.std.specs.{Prelude.{Contains, IfSome}, Io.KnownBytes.{Appends, Consumes, IsAtEnd}}
use Rattle.p25_io.specs.Events.{Event, Read, ReadFailed, Wrote, WriteFailed, octets_read, octets_written}
use Rattle.p25_io.specs.{Faults.{Rose}, Octets.{Taken, Appended}, Pairs.{SinkGoes, SourceGoes}, Streams.{known}}
use Rattle.p25_io.proofs.OctetsLaws.{Appended-none, Appended-trans, Rose-within, Taken-none, Taken-trans}
use Rattle.p25_filter.specs.Traces.{HasReadFault, HasWriteFault}
use Rattle.p25_filter.proofs.LinesLaws.{Contains-later}

-- the input ended in these events
abbrev pub HasEnd : List Event → Type 0
HasEnd [] = ⊥
HasEnd (Read [] ∷ events) = Unit {0}
HasEnd (Read (octet ∷ octets) ∷ events) = HasEnd events
HasEnd (ReadFailed ∷ events) = HasEnd events
HasEnd (Wrote piece ∷ events) = HasEnd events
HasEnd (WriteFailed piece count ∷ events) = HasEnd events

-- the exposed octets before and after some events: those read were the first of the source, and none are left if the input ended; those written follow those
-- that were written before
pub record Went (told left first last : Option (List ℕ)) (events : List Event) : Type 0 where
  pub taken : Taken told (octets_read events) left
  pub ending : HasEnd events → IfSome left (λ rest. rest ≡ [])
  pub appended : Appended first (octets_written events) last

-- if nothing is left, nothing is left later
none-later : (before now : Option (List ℕ)) (octets : List ℕ) → Taken before octets now → IfSome before (λ rest. rest ≡ []) → IfSome now (λ rest. rest ≡ [])
none-later before None octets taken none = tt
none-later None (Some rest) octets taken none = let wrong : None ≡ Some (octets ++ rest) = taken.left in cc
none-later (Some all) (Some rest) octets taken none =
    let same : Some all ≡ Some (octets ++ rest) = taken.left in
    let whole : all ≡ octets ++ rest = cc in
    nil_from_length rest (omega (arith, ap length whole, ap length none, length-append octets rest))

module _ {S : Type 0} (left : S → Option (List ℕ)) (faults : S → ℕ) where
  -- a source's count of faults never falls
  pub SourceGoes-later : (first last : S) (events : List Event) → SourceGoes left faults first events last → faults first ≤ faults last
  SourceGoes-later first last [] goes = omega (arith, ap faults goes)
  SourceGoes-later first last (Read octets ∷ events) goes = omega (arith, goes.1.later, SourceGoes-later goes.0 last events goes.2)
  SourceGoes-later first last (ReadFailed ∷ events) goes = omega (arith, goes.1.later, SourceGoes-later goes.0 last events goes.2)
  SourceGoes-later first last (event ∷ events) goes = SourceGoes-later first last events goes

  -- and it rose if a read failed
  pub SourceGoes-rose : (first last : S) (events : List Event) → SourceGoes left faults first events last → HasReadFault events → Rose (faults first) (faults last)
  SourceGoes-rose first last (Read octets ∷ events) goes has =
      Rose-within (faults first) (faults goes.0) (faults last) (faults last) goes.1.later (SourceGoes-rose goes.0 last events goes.2 has) (omega arith)
  SourceGoes-rose first last (ReadFailed ∷ events) goes has =
      Rose-within (faults first) (faults first) (faults goes.0) (faults last) (omega arith) goes.1.cause (SourceGoes-later goes.0 last events goes.2)
  SourceGoes-rose first last [] goes has = absurd has
  SourceGoes-rose first last (event ∷ events) goes has = SourceGoes-rose first last events goes has

  SourceGoes-taken : (first last : S) (events : List Event) → SourceGoes left faults first events last → Taken (left first) (octets_read events) (left last)
  SourceGoes-taken first last [] goes = subst (λ (s : S). Taken (left first) [] (left s)) (sym goes) (Taken-none (left first))
  SourceGoes-taken first last (Read octets ∷ events) goes = Taken-trans goes.1.taken (SourceGoes-taken goes.0 last events goes.2)
  SourceGoes-taken first last (ReadFailed ∷ events) goes =
      subst (λ (o : Option (List ℕ)). Taken o (octets_read events) (left last)) goes.1.kept (SourceGoes-taken goes.0 last events goes.2)
  SourceGoes-taken first last (event ∷ events) goes = SourceGoes-taken first last events goes

  SourceGoes-ended : (first last : S) (events : List Event) → SourceGoes left faults first events last → HasEnd events → IfSome (left last) (λ rest. rest ≡ [])
  SourceGoes-ended first last (Read [] ∷ events) goes has =
      none-later (left first) (left last) (octets_read events) (SourceGoes-taken first last (Read [] ∷ events) goes) (goes.1.ending refl)
  SourceGoes-ended first last (Read (octet ∷ octets) ∷ events) goes has = SourceGoes-ended goes.0 last events goes.2 has
  SourceGoes-ended first last (ReadFailed ∷ events) goes has = SourceGoes-ended goes.0 last events goes.2 has
  SourceGoes-ended first last [] goes has = absurd has
  SourceGoes-ended first last (event ∷ events) goes has = SourceGoes-ended first last events goes has

module _ {K : Type 0} (written : K → Option (List ℕ)) (faults : K → ℕ) where
  -- a sink's count of faults never falls
  pub SinkGoes-later : (first last : K) (events : List Event) → SinkGoes written faults first events last → faults first ≤ faults last
  SinkGoes-later first last [] goes = omega (arith, ap faults goes)
  SinkGoes-later first last (Wrote piece ∷ events) goes = omega (arith, goes.1.later, SinkGoes-later goes.0 last events goes.2)
  SinkGoes-later first last (WriteFailed piece count ∷ events) goes = omega (arith, goes.1.later, SinkGoes-later goes.0 last events goes.2)
  SinkGoes-later first last (event ∷ events) goes = SinkGoes-later first last events goes

  -- and it rose if a write failed
  pub SinkGoes-rose : (first last : K) (events : List Event) → SinkGoes written faults first events last → HasWriteFault events → Rose (faults first) (faults last)
  SinkGoes-rose first last (Wrote piece ∷ events) goes has =
      Rose-within (faults first) (faults goes.0) (faults last) (faults last) goes.1.later (SinkGoes-rose goes.0 last events goes.2 has) (omega arith)
  SinkGoes-rose first last (WriteFailed piece count ∷ events) goes has =
      Rose-within (faults first) (faults first) (faults goes.0) (faults last) (omega arith) goes.1.cause (SinkGoes-later goes.0 last events goes.2)
  SinkGoes-rose first last [] goes has = absurd has
  SinkGoes-rose first last (event ∷ events) goes has = SinkGoes-rose first last events goes has

  SinkGoes-appended : (first last : K) (events : List Event) → SinkGoes written faults first events last → Appended (written first) (octets_written events) (written last)
  SinkGoes-appended first last [] goes = subst (λ (s : K). Appended (written first) [] (written s)) (sym goes) (Appended-none (written first))
  SinkGoes-appended first last (Wrote piece ∷ events) goes = Appended-trans goes.1.appended (SinkGoes-appended goes.0 last events goes.2)
  SinkGoes-appended first last (WriteFailed piece count ∷ events) goes = Appended-trans goes.1.appended (SinkGoes-appended goes.0 last events goes.2)
  SinkGoes-appended first last (event ∷ events) goes = SinkGoes-appended first last events goes

-- the exposed octets of a source and a sink before and after the events that they went through
pub pair-went : {S K : Type 0} (left : S → Option (List ℕ)) (source_faults : S → ℕ) (written : K → Option (List ℕ)) (sink_faults : K → ℕ)
    (source source_now : S) (sink sink_now : K) (events : List Event) → SourceGoes left source_faults source events source_now
    → SinkGoes written sink_faults sink events sink_now → Went (left source) (left source_now) (written sink) (written sink_now) events
pair-went left source_faults written sink_faults source source_now sink sink_now events read wrote = record {
  taken = SourceGoes-taken left source_faults source source_now events read;
  ending = SourceGoes-ended left source_faults source source_now events read;
  appended = SinkGoes-appended written sink_faults sink sink_now events wrote;
}

-- a read that returned none is among the events if the input ended
end-read : (events : List Event) → HasEnd events → Contains events (Read [])
end-read [] has = absurd has
end-read (Read [] ∷ events) has = (zero, omega arith, refl)
end-read (event ∷ events) has = Contains-later event events (Read []) (end-read events has)

-- the exposed octets of a reader and a writer before and after the events on them, as far as each exposes its contents
read-known : (first last : Option (List ℕ)) (octets : List ℕ) → Consumes first last octets → Taken first octets (known first last)
read-known None last octets read = record { left = refl }
read-known (Some all) None octets read = absurd read
read-known (Some all) (Some rest) octets read = record { left = ap Some read }

wrote-known : (first last : Option (List ℕ)) (octets : List ℕ) → Appends first last octets → Appended first octets (known first last)
wrote-known None last octets wrote = record { written = refl }
wrote-known (Some before) None octets wrote = absurd wrote
wrote-known (Some before) (Some now) octets wrote = record { written = ap Some wrote }

end-known : (first last : Option (List ℕ)) → IfSome first (λ left. IsAtEnd last) → IfSome (known first last) (λ rest. rest ≡ [])
end-known None last end = tt
end-known (Some all) None end = tt
end-known (Some all) (Some rest) end = end

pub streams-went : (told left first last : Option (List ℕ)) (events : List Event) → Consumes told left (octets_read events)
    → (Contains events (Read []) → IfSome told (λ some. IsAtEnd left)) → Appends first last (octets_written events)
    → Went told (known told left) first (known first last) events
streams-went told left first last events read ending wrote = record {
  taken = read-known told left (octets_read events) read;
  ending = λ has. end-known told left (ending (end-read events has));
  appended = wrote-known first last (octets_written events) wrote;
}
