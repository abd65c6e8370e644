use Rattle.std.proofs.Common.{Some, ap, sym, ◌∙◌}
use Rattle.p25_filter.specs.declared.ending.Ending.{Ending}
use Rattle.p25_recording_filters.specs.Recordings.{RecordingParts}
use Rattle.p25_recording_filters.proofs.RecordingsLaws.{step-ending}
use Rattle.p25_recording_filters.proofs.recording.RecordingFilter.ending.Goals as goal

pub returns : goal.returns
returns g c =
    let reporting = g.R.Report.reporting in
    λ ended more.
    step-ending reporting c.args.self.now c.requires.finished c.requires.drained.1 ended more
    ∙ ap (λ (r : RecordingParts g.row.R.Denot). Some (reporting.ending r.report)) (sym c.self.view_is)
    ∙ ap (λ (e : Ending). Some e) (sym c.ending.ensures)
