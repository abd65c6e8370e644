-- The consequences of a call on streams, as far as the reader and the writer expose their octets, by the events that were made on them.
use Rattle.std.proofs.Common.{◌≡◌, ℕ, true, List, [], ◌∷◌, ◌++◌, Option, Some, None, refl, ap, sym, subst, ◌∙◌, append-nil}
use Rattle.std.specs.{Prelude.{IfSome}, Io.KnownBytes.{Appends, Consumes}}
use Rattle.p25_io.specs.{Events.{Event, Read, ReadFailed, Wrote, WriteFailed, octets_read, octets_written}, Streams.{StreamsGo, known, reader_in, writer_in}, declared.streams.Streams.{Streams}}
use Rattle.p25_filter.specs.Traces.{AreReads, HasReadFault, HasWriteFault}
use Rattle.p25_filter.proofs.WentLaws.{streams-went}
use Rattle.p25_tool.specs.{CallClauses.{CallSays}, CallRuns.{AreWrites, IsCallRun}, Outputs.{output_by}, Runs.{Ran}, Words.{command_of}, Written.{HasEnded}, declared.command.Command.{Command}}
use Rattle.p25_tool.specs.declared.outcome.Outcome.{Outcome}
use Rattle.p25_tool.proofs.{CallRunsLaws.{events-say, says-by}, WrittenLaws.{all-written}}

-- writes read no octets, and reads write none
writes-read : (events : List Event) → AreWrites events → octets_read events ≡ []
writes-read [] are = refl
writes-read (Wrote piece ∷ events) are = writes-read events are
writes-read (WriteFailed piece count ∷ events) are = writes-read events are
writes-read events are = absurd are

reads-write : (events : List Event) → AreReads events → octets_written events ≡ []
reads-write [] are = refl
reads-write (Read octets ∷ events) are = reads-write events are
reads-write (ReadFailed ∷ events) are = reads-write events are
reads-write events are = absurd are

-- exposed octets stay if none are read or written
kept-read : (first last : Option (List ℕ)) (octets input : List ℕ) → Consumes first last octets → octets ≡ [] → first ≡ Some input → last ≡ Some input
kept-read None last octets input read none told = cc told
kept-read (Some all) None octets input read none told = absurd read
kept-read (Some all) (Some rest) octets input read none told =
    let same : all ≡ input = cc told in ap (λ (zs : List ℕ). Some zs) (sym (read ∙ ap (λ (zs : List ℕ). zs ++ rest) none) ∙ same)

kept-written : (first last : Option (List ℕ)) (octets held : List ℕ) → Appends first last octets → octets ≡ [] → first ≡ Some held → last ≡ Some held
kept-written None last octets held wrote none told = cc told
kept-written (Some before) None octets held wrote none told = absurd wrote
kept-written (Some before) (Some now) octets held wrote none told =
    let same : before ≡ held = cc told in
    ap (λ (zs : List ℕ). Some zs) (wrote ∙ ap (λ (zs : List ℕ). before ++ zs) none ∙ append-nil before ∙ same)

-- the final state of exposed octets is known
known-told : (first last : Option (List ℕ)) (input : List ℕ) → first ≡ Some input → known first last ≡ last
known-told None last input told = cc told
known-told (Some all) last input told = refl

module _ {R W : Type 0} (remaining : R → Option (List ℕ)) (contents : W → Option (List ℕ)) (words : List (List ℕ)) (events : List Event) (outcome : Outcome)
    (first last : Streams R W) (went : StreamsGo remaining contents first events last) (call : IsCallRun (command_of words) events outcome) where
  abbrev before : Option (List ℕ)
  before = remaining (reader_in first)

  abbrev left : Option (List ℕ)
  left = remaining (reader_in last)

  abbrev stood : Option (List ℕ)
  stood = contents (writer_in first)

  abbrev now : Option (List ℕ)
  now = contents (writer_in last)

  -- whether or not the reader and the writer expose their octets
  pub streams-known : CallSays (command_of words) before (known before left) stood (known stood now) (HasReadFault events) (HasWriteFault events) (AreWrites events)
      (AreReads events) outcome
  streams-known =
      events-say before (known before left) stood (known stood now) events outcome (streams-went before left stood now events went.read went.ending went.wrote) words call

  module _ (input held : List ℕ) (told : remaining (reader_in first) ≡ Some input) (holds : contents (writer_in first) ≡ Some held) where
    pub streams-say : CallSays (command_of words) (Some input) left (Some held) now (HasReadFault events) (HasWriteFault events) (left ≡ Some input) (now ≡ Some held) outcome
    streams-say =
        let known_says =
        says-by (command_of words) before (known before left) stood (known stood now) (HasReadFault events) (HasReadFault events) (HasWriteFault events)
        (HasWriteFault events) (AreWrites events) (left ≡ Some input) (AreReads events) (now ≡ Some held) outcome (λ has. has) (λ has. has)
        (λ are. kept-read before left (octets_read events) input went.read (writes-read events are) told)
        (λ are. kept-written stood now (octets_written events) held went.wrote (reads-write events are) holds) streams-known in
        subst (λ (o : Option (List ℕ)). CallSays (command_of words) (Some input) left o now (HasReadFault events) (HasWriteFault events) (left ≡ Some input) (now ≡ Some held) outcome)
        holds
        (subst (λ (o : Option (List ℕ)). CallSays (command_of words) o left stood now (HasReadFault events) (HasWriteFault events) (left ≡ Some input) (now ≡ Some held) outcome)
        told
        (subst (λ (o : Option (List ℕ)). CallSays (command_of words) before left stood o (HasReadFault events) (HasWriteFault events) (left ≡ Some input) (now ≡ Some held) outcome)
        (known-told stood now held holds)
        (subst (λ (o : Option (List ℕ)). CallSays (command_of words) before o stood (known stood now) (HasReadFault events) (HasWriteFault events) (left ≡ Some input)
        (now ≡ Some held) outcome) (known-told before left input told) known_says)))

    -- a call that came to the end of its input wrote all
    pub streams-ended : HasEnded outcome → IfSome (command_of words) (λ command. now ≡ Some (held ++ output_by command true input))
    streams-ended ended = by_command (command_of words) streams-say.ran
      where
        by_command : (named : Option Command) → IfSome named (λ command. Ran (Some input) left (Some held) now command outcome)
            → IfSome named (λ command. now ≡ Some (held ++ output_by command true input))
        by_command None ran = tt
        by_command (Some command) ran = all-written command input held left now outcome ran ended
