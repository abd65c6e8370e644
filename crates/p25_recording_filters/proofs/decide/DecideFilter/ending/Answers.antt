use Rattle.p25_recording_filters.proofs.DecideRecordingsLaws.{step-ending}
use Rattle.p25_recording_filters.proofs.decide.DecideFilter.ending.Goals as goal

pub returns : goal.returns
returns c = λ ended more. step-ending c.args.self.now c.requires.finished ended more
