use Rattle.std.proofs.Common.{◌≡◌, subst, sym, false, []}
use Rattle.p25_stream.specs.Scan.{given}
use Rattle.p25_filter.specs.Futures.{IsIdle}
use Rattle.p25_recording_filters.specs.{declared.recording.Phase.TheVariants.{Ended}, Recordings.{RecordingParts, recording_future}}
use Rattle.p25_recording_filters.proofs.RecordingsLaws.{fresh-idle, fresh-none}
use Rattle.p25_recording_filters.proofs.tests.run_report.Goals as goal

pub run_on-end-requires-clause-drained : goal.run_on-end-requires-clause-drained
run_on-end-requires-clause-drained g c =
    subst (λ (r : RecordingParts g.row.R.Denot). (given r.scan ≡ []) × (r.phase ≡ Ended → ⊥)) (sym c.new-recording.ensures) (fresh-none g.R.Report.reporting c.args.report, (λ is. cc))

pub run_on-end-requires-clause-idle : goal.run_on-end-requires-clause-idle
run_on-end-requires-clause-idle g c =
    subst (λ (r : RecordingParts g.row.R.Denot). IsIdle false (recording_future g.R.Report.reporting r)) (sym c.new-recording.ensures) (fresh-idle g.R.Report.reporting c.args.report)
