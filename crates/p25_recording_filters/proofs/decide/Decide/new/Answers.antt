use Rattle.std.proofs.Common.{length, ap, sym, arith}
use Rattle.p25_stream.specs.Scan.{Scan}
use Rattle.p25_recording_filters.proofs.DecideRecordingsLaws.{deciding-fresh}
use Rattle.p25_recording_filters.proofs.decide.Decide.new.Goals as goal

pub invariant_of-result : goal.invariant_of-result
invariant_of-result c = (
  deciding-fresh c.new.result c.new-2.result c.new-3.result c.new.ensures.value c.new-2.ensures c.new-3.ensures,
  omega (arith, ap length c.new-4.ensures),
  sym (ap (λ (t : Scan). t.place) c.new.ensures.value),
  ap (λ (t : Scan). t.finished) c.new.ensures.value,
  λ is. absurd (cc),
)
