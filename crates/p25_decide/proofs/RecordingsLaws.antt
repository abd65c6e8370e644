-- A recording decided, by the units that the scan finds in the followed bits: those of the recording, and those whose sync and NID are
-- restored.
use Rattle.std.proofs.Common.{◌≡◌, ◌%◌, Bool, true, List, [], None, eqb, cond, refl, ap, ◌∙◌, ℤ}
use Rattle.p25_units.specs.{declared.item.Item.{Item}, declared.item.Item.TheVariants.{Whole, Broken, NoUnit, Gap, Cut}}
use Rattle.p25_stream.specs.Items.{items_of}
use Rattle.p25_follow.specs.{Followed.{follow_of, is_rest}}
use Rattle.p25_follow.proofs.NeverWorseLaws.{never-worse}
use Rattle.p25_soft.specs.Levels.{hard_bits}
use Rattle.p25_decide.specs.{DecidedRecordings.{decide_of, decided_of, item_decided, unit_decided}, DecidedStretches.{over_units, stretches_over}}
use Rattle.p25_decide.proofs.OverLaws.{followed-over, written-over}

either_same : (b : Bool) (bits : List Bool) → cond b bits bits ≡ bits
either_same true bits = refl
either_same b bits = refl

-- the bits of a stretch stay
item_decided-rest : (levels : List ℤ) (item : Item) (sent : List Bool) → is_rest item ≡ true → item_decided levels item sent ≡ sent
unfolding item_decided unit_decided
item_decided-rest levels (Whole place frame fixes) sent rest = absurd (cc)
item_decided-rest levels (Broken place count nac duid fields) sent rest = absurd (cc)
item_decided-rest levels (Cut place count) sent rest = absurd (cc)
item_decided-rest levels (NoUnit place field) sent rest = either_same (eqb (place % 2) 0) sent
item_decided-rest levels (Gap place count) sent rest = either_same (eqb (place % 2) 0) sent

pub decide-stretches : (levels : List ℤ) → decide_of levels ≡ stretches_over (item_decided levels) 0 None [] (items_of 0 (hard_bits levels)) (hard_bits levels)
unfolding decide_of decided_of
decide-stretches levels =
    let bits = hard_bits levels in
    written-over (item_decided levels) (item_decided-rest levels) 0 (follow_of bits)
    ∙ ap (λ (us : List Item). over_units (item_decided levels) 0 us (follow_of bits)) (never-worse bits).0
    ∙ followed-over (item_decided levels) bits
