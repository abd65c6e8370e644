use Rattle.std.proofs.Common.{ap, ◌∙◌, length}
use Rattle.p25_status.specs.Woven.{woven}
use Rattle.p25_units.specs.{Readings.{unit_reading_of}, Units.{image_of}}
use Rattle.p25_units.proofs.{UnitsLaws.{symbols-sound, length-image_of}, WithinRadiusLaws.{unit_reading_of-image_of}}
use Rattle.p25_units.proofs.sending.image.Goals as goal

pub weave-requires : goal.weave-requires
weave-requires c = c.unit_image.ensures.len ∙ symbols-sound c.args.frame.now c.requires

pub returns-clause-list : goal.returns-clause-list
unfolding image_of
returns-clause-list c = c.weave.ensures.list ∙ ap (λ bits. woven bits c.args.frame.now.statuses) c.unit_image.ensures.list

pub returns-clause-len : goal.returns-clause-len
returns-clause-len c = ap length (returns-clause-list c) ∙ length-image_of c.args.frame.now c.requires c.unit_image.ensures.sendable

pub returns-clause-again : goal.returns-clause-again
returns-clause-again c = ap unit_reading_of (returns-clause-list c) ∙ unit_reading_of-image_of c.args.frame.now c.requires c.unit_image.ensures.sendable
