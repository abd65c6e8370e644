-- No event leads from a pair to itself, and sequences of events compose: by induction on the events, for the source and for the sink.
use Rattle.std.specs.Prelude.{ℕ, List, [], ◌∷◌, ◌++◌, Option}
use Rattle.std.proofs.Common.{refl, ◌∙◌, subst}
use Rattle.p25_io.specs.{Chains.{Chain}, Events.{Event, Read, ReadFailed, Wrote, WriteFailed}, Pairs.{SourceGoes, SinkGoes, PairGoes}}

pub SourceGoes-joins : {S : Type 0} (left : S → Option (List ℕ)) (faults : S → ℕ) (first next last : S) (xs ys : List Event)
    → SourceGoes left faults first xs next → SourceGoes left faults next ys last → SourceGoes left faults first (xs ++ ys) last
SourceGoes-joins left faults first next last [] ys same goes = subst (λ s. SourceGoes left faults s ys last) same goes
SourceGoes-joins left faults first next last (Read octets ∷ xs) ys went goes =
    (went.0, went.1, SourceGoes-joins left faults went.0 next last xs ys went.2 goes)
SourceGoes-joins left faults first next last (ReadFailed ∷ xs) ys went goes =
    (went.0, went.1, SourceGoes-joins left faults went.0 next last xs ys went.2 goes)
SourceGoes-joins left faults first next last (Wrote piece ∷ xs) ys went goes = SourceGoes-joins left faults first next last xs ys went goes
SourceGoes-joins left faults first next last (WriteFailed piece count ∷ xs) ys went goes = SourceGoes-joins left faults first next last xs ys went goes

pub SinkGoes-joins : {K : Type 0} (written : K → Option (List ℕ)) (faults : K → ℕ) (first next last : K) (xs ys : List Event)
    → SinkGoes written faults first xs next → SinkGoes written faults next ys last → SinkGoes written faults first (xs ++ ys) last
SinkGoes-joins written faults first next last [] ys same goes = subst (λ s. SinkGoes written faults s ys last) same goes
SinkGoes-joins written faults first next last (Read octets ∷ xs) ys went goes = SinkGoes-joins written faults first next last xs ys went goes
SinkGoes-joins written faults first next last (ReadFailed ∷ xs) ys went goes = SinkGoes-joins written faults first next last xs ys went goes
SinkGoes-joins written faults first next last (Wrote piece ∷ xs) ys went goes =
    (went.0, went.1, SinkGoes-joins written faults went.0 next last xs ys went.2 goes)
SinkGoes-joins written faults first next last (WriteFailed piece count ∷ xs) ys went goes =
    (went.0, went.1, SinkGoes-joins written faults went.0 next last xs ys went.2 goes)

pub PairGoes-chain : {S K : Type 0} (left : S → Option (List ℕ)) (source_faults : S → ℕ) (written : K → Option (List ℕ)) (sink_faults : K → ℕ)
    → Chain (PairGoes left source_faults written sink_faults)
PairGoes-chain left source_faults written sink_faults = record {
  stays = λ pair. record { same_source = refl; same_sink = refl; source = refl; sink = refl };
  joins = λ {first} {next} {last} xs ys went goes.
      record {
        same_source = goes.same_source ∙ went.same_source;
        same_sink = goes.same_sink ∙ went.same_sink;
        source = SourceGoes-joins left source_faults first.source.now next.source.now last.source.now xs ys went.source goes.source;
        sink = SinkGoes-joins written sink_faults first.sink.now next.sink.now last.sink.now xs ys went.sink goes.sink;
      };
}
