use Rattle.std.proofs.Common.{refl}
use Rattle.p25_show.proofs.CallsLaws.{show-call}
use Rattle.p25_show.proofs.laws.show_laws.Goals as goal

pub returns : goal.returns
returns g c = record {
  named = refl;
  says = λ words input before source source_now sink sink_now outcome.
      show-call words input before (g.S.Source.left source) (g.S.Source.left source_now) (g.K.Sink.written sink) (g.K.Sink.written sink_now) _ _ _ _ outcome;
}
