use Rattle.std.proofs.Common.{rules, ap, ◌∙◌}
use Rattle.p25_status.specs.Woven.{woven}
use Rattle.p25_units.specs.Units.{IsSoundFrame, image_of}
use Rattle.p25_units.proofs.UnitsLaws.{symbols-sound}
use Rattle.p25_stream.proofs.repeats.repair_item_in.Goals as goal

pub weave-requires : goal.weave-requires
weave-requires c =
    let sound : IsSoundFrame c.in-Whole.frame = search rules in
    c.unit_image.ensures.len ∙ symbols-sound c.in-Whole.frame sound

pub returns-in-Whole : goal.returns-in-Whole
unfolding image_of
returns-in-Whole c = rw c.in-Whole.is (c.weave.ensures.list ∙ ap (λ bits. woven bits c.in-Whole.frame.statuses) c.unit_image.ensures.list)
