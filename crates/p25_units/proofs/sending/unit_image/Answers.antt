use Rattle.std.proofs.Common.{ap₂, ◌∙◌}
use Rattle.p25_units.specs.Units.{body_image_of, unit_image_of}
use Rattle.p25_units.proofs.sending.unit_image.Goals as goal

pub returns-clause-list : goal.returns-clause-list
unfolding unit_image_of
returns-clause-list c = c.body_image.ensures.list ∙ ap₂ body_image_of c.nac.ensures.value c.body.ensures
