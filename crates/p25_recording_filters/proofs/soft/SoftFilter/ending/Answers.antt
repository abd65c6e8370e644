use Rattle.p25_recording_filters.proofs.SoftRecordingsLaws.{step-ending}
use Rattle.p25_recording_filters.proofs.soft.SoftFilter.ending.Goals as goal

pub returns : goal.returns
returns c = λ ended more. step-ending c.args.self.now c.requires.finished ended more
