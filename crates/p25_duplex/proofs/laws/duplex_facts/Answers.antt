use Rattle.std.proofs.Common.{List, refl}
use Rattle.p25_duplex.specs.{declared.side.Side.{Side}, declared.event.DuplexEvent.{DuplexEvent}, DuplexSteps.{other_side}, DuplexRuns.{data_in, answer_in}}
use Rattle.p25_duplex.proofs.RunLaws.{run-clean, run-facts, run-newest}
use Rattle.p25_duplex.proofs.laws.duplex_facts.Goals as goal

pub returns : goal.returns
returns c = record {
  clean = run-clean;
  facts = run-facts;
  newest_data = λ (events : List DuplexEvent) (side : Side). run-newest data_in side events refl;
  newest_answer = λ (events : List DuplexEvent) (side : Side). run-newest answer_in (other_side side) events refl;
}
