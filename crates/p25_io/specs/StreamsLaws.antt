-- No event leads from streams to themselves, and sequences of events compose.
use Rattle.std.specs.{Prelude.{◌≡◌, ℕ, ◌+◌, List, [], ◌∷◌, ◌++◌, Option, Some, None, length, Contains, IfSome}, Io.KnownBytes.{Appends, Consumes, IsAtEnd}}
use Rattle.std.proofs.Common.{sym, ap, subst, ◌∙◌, arith, append_assoc, append-nil, ◌⊎◌, inl, inr, ◌<◌}
use Rattle.std.proofs.{KnownBytes.{Appends-nil, Appends-trans, Consumes-nil, Consumes-trans}, lemmas.Grind.{flat_map-append}}
use Rattle.std.proofs.lemmas.List.Elements.{Contains-append_cases}
use Rattle.p25_io.specs.{Chains.{Chain}, declared.streams.Streams.{Streams}, Streams.{StreamsGo, answers_on, events_on, reader_in, taken_on, writer_in}}
use Rattle.p25_io.specs.Events.{Event, Read, ReadFailed, Wrote, WriteFailed, octets_read, octets_written, read_alone, read_by, reads_in, write_faults_in, writes_in, written_by}

pub writes_in-append : (xs ys : List Event) → writes_in (xs ++ ys) ≡ writes_in xs + writes_in ys
writes_in-append [] ys = omega arith
writes_in-append (Read octets ∷ xs) ys = writes_in-append xs ys
writes_in-append (ReadFailed ∷ xs) ys = writes_in-append xs ys
writes_in-append (Wrote piece ∷ xs) ys = omega (arith, writes_in-append xs ys)
writes_in-append (WriteFailed piece count ∷ xs) ys = writes_in-append xs ys

pub write_faults_in-append : (xs ys : List Event) → write_faults_in (xs ++ ys) ≡ write_faults_in xs + write_faults_in ys
write_faults_in-append [] ys = omega arith
write_faults_in-append (Read octets ∷ xs) ys = write_faults_in-append xs ys
write_faults_in-append (ReadFailed ∷ xs) ys = write_faults_in-append xs ys
write_faults_in-append (Wrote piece ∷ xs) ys = write_faults_in-append xs ys
write_faults_in-append (WriteFailed piece count ∷ xs) ys = omega (arith, write_faults_in-append xs ys)

-- no more octets are read than are left: none if none are left
nothing-left : (now last : Option (List ℕ)) (octets : List ℕ) → Consumes now last octets → IsAtEnd now → IfSome now (λ left. IsAtEnd last)
nothing-left None last octets read end = tt
nothing-left (Some left) None octets read end = absurd read
nothing-left (Some left) (Some rest) octets read end = none octets rest (sym read ∙ end)
  where
    none : (xs ys : List ℕ) → xs ++ ys ≡ [] → ys ≡ []
    none [] ys same = same
    none (x ∷ xs) ys same = absurd (omega (arith, ap length same))

-- exposed octets stay exposed
ended-on : (first now last : Option (List ℕ)) (before after : List ℕ) → Consumes first now before → Consumes now last after
    → IfSome first (λ left. IsAtEnd now) → IfSome first (λ left. IsAtEnd last)
ended-on None now last before after read more end = tt
ended-on (Some left) None last before after read more end = absurd read
ended-on (Some left) (Some rest) last before after read more end = nothing-left (Some rest) last after more end

ended-later : (first now last : Option (List ℕ)) (before : List ℕ) → Consumes first now before → IfSome now (λ left. IsAtEnd last)
    → IfSome first (λ left. IsAtEnd last)
ended-later None now last before read end = tt
ended-later (Some left) None last before read end = absurd read
ended-later (Some left) (Some rest) last before read end = end

-- the octets appended by one step and those appended by two
after : {X : Type 0} {next last all : List X} (first xs ys : List X) → next ≡ first ++ xs → last ≡ next ++ ys → all ≡ xs ++ ys → last ≡ first ++ all
after first xs ys one two both = two ∙ ap (λ zs. zs ++ ys) one ∙ append_assoc first xs ys ∙ ap (λ zs. first ++ zs) (sym both)

none-in : (event : Event) → Contains [] event → ⊥
none-in event none = let below : none.0 < 0 = none.1 in absurd (omega (arith, below))

module _ {R W : Type 0} (remaining : R → Option (List ℕ)) (contents : W → Option (List ℕ)) where
  StreamsGo-stays : (streams : Streams R W) → StreamsGo remaining contents streams [] streams
  StreamsGo-stays streams = record {
    made = sym (append-nil (events_on streams));
    read = Consumes-nil (remaining (reader_in streams));
    ending = λ none. absurd (none-in (Read []) none);
    wrote = Appends-nil (contents (writer_in streams));
    answered = sym (append-nil (answers_on streams));
    taken = sym (append-nil (taken_on streams));
    flushed = omega arith;
    failed = omega arith;
  }

  StreamsGo-joins : (first next last : Streams R W) (xs ys : List Event) → StreamsGo remaining contents first xs next
      → StreamsGo remaining contents next ys last → StreamsGo remaining contents first (xs ++ ys) last
  StreamsGo-joins first next last xs ys went goes =
      let all_read : octets_read (xs ++ ys) ≡ octets_read xs ++ octets_read ys = flat_map-append read_by xs ys in
      let all_written : octets_written (xs ++ ys) ≡ octets_written xs ++ octets_written ys = flat_map-append written_by xs ys in
      record {
        made = goes.made ∙ ap (λ (es : List Event). es ++ ys) went.made ∙ append_assoc (events_on first) xs ys;
        read =
            subst (λ (octets : List ℕ). Consumes (remaining (reader_in first)) (remaining (reader_in last)) octets) (sym all_read)
            (Consumes-trans (remaining (reader_in first)) (remaining (reader_in next)) (remaining (reader_in last)) _ _ went.read goes.read);
        ending = λ ended. by_place (Contains-append_cases xs ys (Read []) ended);
        wrote =
            subst (λ (octets : List ℕ). Appends (contents (writer_in first)) (contents (writer_in last)) octets) (sym all_written)
            (Appends-trans (contents (writer_in first)) (contents (writer_in next)) (contents (writer_in last)) _ _ went.wrote goes.wrote);
        answered = after (answers_on first) (reads_in xs) (reads_in ys) went.answered goes.answered (flat_map-append read_alone xs ys);
        taken = after (taken_on first) (octets_written xs) (octets_written ys) went.taken goes.taken all_written;
        flushed = omega (arith, went.flushed, goes.flushed, writes_in-append xs ys);
        failed = omega (arith, went.failed, goes.failed, write_faults_in-append xs ys);
      }
    where
      by_place : Contains xs (Read []) ⊎ Contains ys (Read []) → IfSome (remaining (reader_in first)) (λ left. IsAtEnd (remaining (reader_in last)))
      by_place (inl before) =
          ended-on (remaining (reader_in first)) (remaining (reader_in next)) (remaining (reader_in last)) _ _ went.read goes.read (went.ending before)
      by_place (inr after) = ended-later (remaining (reader_in first)) (remaining (reader_in next)) (remaining (reader_in last)) _ went.read (goes.ending after)

  pub StreamsGo-chain : Chain (StreamsGo remaining contents)
  StreamsGo-chain = record { stays = StreamsGo-stays; joins = λ {first} {next} {last} xs ys. StreamsGo-joins first next last xs ys }
