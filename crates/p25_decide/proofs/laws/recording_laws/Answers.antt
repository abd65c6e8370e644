use Rattle.std.proofs.Common.{sym, ◌∙◌}
use Rattle.p25_soft.specs.Levels.{hard_bits}
use Rattle.p25_decide.specs.DecidedRecordings.{item_decided}
use Rattle.p25_decide.proofs.{PassLaws.{changed-all}, RecordingsLaws.{decide-stretches}}
use Rattle.p25_decide.proofs.laws.recording_laws.Goals as goal

pub returns-clause-stretches : goal.returns-clause-stretches
returns-clause-stretches c = decide-stretches

pub returns-clause-follower : goal.returns-clause-follower
returns-clause-follower c = λ levels. decide-stretches levels ∙ sym (changed-all (item_decided levels) (hard_bits levels))
