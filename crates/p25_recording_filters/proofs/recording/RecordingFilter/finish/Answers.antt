use Rattle.std.proofs.Common.{ap, subst, ◌∙◌}
use Rattle.p25_filter.specs.Futures.{IsClosed}
use Rattle.p25_recording_filters.specs.{declared.recording.Phase.TheVariants.{Ended}, Recordings.{RecordingParts, has_ended, recording_future}}
use Rattle.p25_recording_filters.proofs.RecordingsLaws.{step-finish}
use Rattle.p25_recording_filters.proofs.recording.RecordingFilter.finish.Goals as goal

pub returns-clause-closed : goal.returns-clause-closed
returns-clause-closed g c =
    let reporting = g.R.Report.reporting in
    let s = c.self.inside in
    let next : RecordingParts g.row.R.Denot = record { report = s.report; scan = c.finish.new.self; phase = Ended } in
    subst (λ (r : RecordingParts g.row.R.Denot). IsClosed (recording_future reporting r) (recording_future reporting next)) c.self.view_is
    (step-finish reporting s.report s.scanner c.finish.new.self s.phase (ap (λ (r : RecordingParts g.row.R.Denot). has_ended r.phase) c.self.view_is ∙ c.requires.going) c.finish.ensures)
