use Rattle.std.proofs.Common.{◌<◌, ℕ, List, length, ap, ◌∙◌, arith, get_or, length-set, refl}
use Rattle.p25_soft.proofs.PointLaws.{places_more, All-places}
use Rattle.p25_soft.proofs.reading.sent_places.Goals as goal

pub loop-place-init : goal.loop-place-init
loop-place-init c = record { long = refl; so_far = λ k below. absurd (omega arith) }

pub loop-place-preserved : goal.loop-place-preserved
loop-place-preserved c =
    let inside : c.loop-place.place < length c.loop-place.in_order = omega arith in record {
      long = length-set c.loop-place.in_order c.loop-place.place c.loop-place.place ∙ c.loop-place.invariant.long;
      so_far = places_more c.loop-place.in_order c.loop-place.place inside c.loop-place.invariant.so_far;
    }

pub returns-clause-in_order : goal.returns-clause-in_order
returns-clause-in_order c =
    λ k below.
    let there : k < c.loop-place.place = omega arith in
    ap (λ (xs : List ℕ). get_or xs k 0) c.gather.ensures.sent ∙ c.loop-place.invariant.so_far k there

pub returns-clause-below : goal.returns-clause-below
returns-clause-below c = All-places c.gather.result c.gather.ensures.len (returns-clause-in_order c)
