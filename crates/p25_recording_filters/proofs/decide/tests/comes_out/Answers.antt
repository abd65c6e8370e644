use Rattle.std.proofs.Common.{◌≡◌, subst, sym, false, []}
use Rattle.p25_stream.specs.Scan.{given}
use Rattle.p25_filter.specs.Futures.{IsIdle}
use Rattle.p25_recording_filters.specs.{declared.recording.Phase.TheVariants.{Ended}, Decides.{DecideParts, decide_future, fresh_decide}}
use Rattle.p25_recording_filters.proofs.DecideRecordingsLaws.{fresh-none, idle-fresh}
use Rattle.p25_recording_filters.proofs.decide.tests.comes_out.Goals as goal

pub run_on-ended-requires-clause-drained : goal.run_on-ended-requires-clause-drained
run_on-ended-requires-clause-drained c =
    subst (λ (r : DecideParts). (given r.scan ≡ []) × (r.phase ≡ Ended → ⊥)) (sym c.new-decide.ensures) (fresh-none, (λ is. cc))

pub run_on-ended-requires-clause-idle : goal.run_on-ended-requires-clause-idle
run_on-ended-requires-clause-idle c = subst (λ (r : DecideParts). IsIdle false (decide_future r)) (sym c.new-decide.ensures) idle-fresh
