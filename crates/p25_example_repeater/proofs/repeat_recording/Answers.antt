use Rattle.std.proofs.Common.{◌≡◌, Bool, List, subst, sym, false, []}
use Rattle.p25_stream.specs.Scan.{given}
use Rattle.p25_filter.specs.Futures.{IsIdle}
use Rattle.p25_recording_filters.specs.{declared.recording.Phase.TheVariants.{Ended}, Recordings.{RecordingParts, recording_future}}
use Rattle.p25_recording_filters.proofs.RecordingsLaws.{fresh-idle, fresh-none}
use Rattle.p25_example_repeater.specs.Repeated.{repeating}
use Rattle.p25_example_repeater.proofs.repeat_recording.Goals as goal

pub run_on-requires-clause-drained : goal.run_on-requires-clause-drained
run_on-requires-clause-drained g c =
    subst (λ (r : RecordingParts (List Bool)). (given r.scan ≡ []) × (r.phase ≡ Ended → ⊥)) (sym c.new-recording.ensures) (fresh-none repeating c.new.result, (λ is. cc))

pub run_on-requires-clause-idle : goal.run_on-requires-clause-idle
run_on-requires-clause-idle g c =
    subst (λ (r : RecordingParts (List Bool)). IsIdle false (recording_future repeating r)) (sym c.new-recording.ensures) (fresh-idle repeating c.new.result)
