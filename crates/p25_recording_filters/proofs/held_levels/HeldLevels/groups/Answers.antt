use Rattle.std.proofs.Common.{◌*◌, ◌/◌, take, ap, ◌∙◌}
use Rattle.p25_recording_filters.specs.SoftLevels.{grouped}
use Rattle.p25_recording_filters.proofs.held_levels.HeldLevels.groups.Goals as goal

pub returns-clause-list : goal.returns-clause-list
unfolding grouped
returns-clause-list c = c.part.ensures.list ∙ ap (λ n. take (4 * (n / 4)) c.args.self.now) c.len.ensures
