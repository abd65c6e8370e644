use Rattle.std.proofs.Common.{◌*◌, ap, ◌∙◌, sym}
use Rattle.p25_status.specs.Woven.{woven}
use Rattle.p25_units.specs.Units.{body_image_of, body_length, image_of, unit_image_of}
use Rattle.p25_units.proofs.UnitsLaws.{symbols-sound}
use Rattle.p25_units.proofs.sending.image_as_in.Goals as goal

pub weave-requires : goal.weave-requires
weave-requires c = c.body_image.ensures.len ∙ ap body_length c.body.ensures ∙ symbols-sound c.args.frame.now c.requires.sound ∙ ap (λ n. 70 * n) (sym c.requires.symbols)

pub returns : goal.returns
unfolding image_of unit_image_of
returns c = c.weave.ensures.list ∙ ap (λ bits. woven bits c.args.statuses.now) (c.body_image.ensures.list ∙ ap (body_image_of c.args.nac) c.body.ensures)
