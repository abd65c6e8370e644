-- No event leads from a tape to itself, and sequences of events compose: the calls of the last state include those of the states before.
use Rattle.std.specs.Prelude.{List, ◌++◌, Some}
use Rattle.std.proofs.{Common.{refl, sym, ◌∙◌, ap}, lemmas.List.{append-nil, append_assoc}}
use Rattle.p25_io.specs.{Chains.{Chain}, Events.{Event}, Tapes.{calls_on, TapeGoes}, MemorySource.{Supply}, SliceSink.{Storage}}
use Rattle.p25_io.specs.PairLaws.{SourceGoes-joins, SinkGoes-joins}

pub TapeGoes-chain : Chain TapeGoes
TapeGoes-chain = record {
  stays = λ tape. record { source = refl; sink = refl; told = λ whole. (whole, sym (append-nil (calls_on tape))) };
  joins = λ {first} {next} {last} xs ys went goes.
      record {
        source =
            SourceGoes-joins (λ (supply : Supply). Some supply.left) (λ (supply : Supply). supply.faults)
            first.source next.source last.source xs ys went.source goes.source;
        sink =
            SinkGoes-joins (λ (storage : Storage). Some storage.written) (λ (storage : Storage). storage.faults)
            first.sink next.sink last.sink xs ys went.sink goes.sink;
        told = λ whole.
            let later = goes.told whole in
            let earlier = went.told later.0 in
            (earlier.0, later.1 ∙ ap (λ (es : List Event). es ++ ys) earlier.1 ∙ append_assoc (calls_on first) xs ys);
      };
}
