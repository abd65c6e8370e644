use Rattle.std.proofs.Common.{List, Bool, ap, ◌∙◌}
use Rattle.p25_status.specs.Woven.{woven}
use Rattle.p25_units.proofs.UnitsLaws.{symbols-sound}
use Rattle.p25_vectors.specs.{Samples.{damaged_image}}
use Rattle.p25_vectors.proofs.sampler.put_damaged.Goals as goal

pub weave-requires : goal.weave-requires
weave-requires c = c.damage-flips.ensures.len ∙ c.unit_image.ensures.len ∙ symbols-sound c.args.frame.now c.requires

pub returns-clause-bits : goal.returns-clause-bits
unfolding damaged_image
returns-clause-bits c =
    let bare = rw (c.body.ensures, c.unit_image.ensures.list) at c.damage-flips.ensures.damage.list in
    c.weave.ensures.list ∙ ap (λ (xs : List Bool). woven xs c.args.frame.now.statuses) bare

pub returns-clause-flips : goal.returns-clause-flips
returns-clause-flips c = rw c.body.ensures at c.damage-flips.ensures.damage.flips

pub returns-clause-state : goal.returns-clause-state
returns-clause-state c = rw c.body.ensures at c.damage-flips.ensures.damage.state
