use Rattle.std.proofs.Common.{ap, length, arith}
use Rattle.p25_stream.specs.Scan.{Scan}
use Rattle.p25_recording_filters.proofs.SoftRecordingsLaws.{holding-fresh}
use Rattle.p25_recording_filters.proofs.soft.Soft.new.Goals as goal

pub invariant_of-result : goal.invariant_of-result
invariant_of-result c = (
  holding-fresh c.new.result c.new-2.result c.new.ensures.value c.new-2.ensures,
  omega (arith, ap length c.new-3.ensures),
  omega (arith, ap length c.new-2.ensures, ap (λ (s : Scan). s.place) c.new.ensures.value),
)
