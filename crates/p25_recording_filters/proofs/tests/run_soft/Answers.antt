use Rattle.std.proofs.Common.{◌≡◌, subst, sym, false, [], refl, arith}
use Rattle.p25_stream.specs.Scan.{given}
use Rattle.p25_filter.specs.Futures.{IsIdle}
use Rattle.p25_recording_filters.specs.Softs.{SoftParts, fresh_soft, soft_future}
use Rattle.p25_recording_filters.proofs.SoftRecordingsLaws.{fresh-none, holding-fresh, step-idle}
use Rattle.p25_recording_filters.proofs.tests.run_soft.Goals as goal

pub run_on-end-requires-clause-drained : goal.run_on-end-requires-clause-drained
run_on-end-requires-clause-drained c = subst (λ (r : SoftParts). given r.scan ≡ []) (sym c.new-soft.ensures) fresh-none

pub run_on-end-requires-clause-idle : goal.run_on-end-requires-clause-idle
run_on-end-requires-clause-idle c =
    subst (λ (r : SoftParts). IsIdle false (soft_future r)) (sym c.new-soft.ensures)
    (step-idle fresh_soft (holding-fresh fresh_soft.scan fresh_soft.levels refl refl) (omega arith) fresh-none)
