use Rattle.std.proofs.Common.{◌≡◌, ◌+◌, ◌<◌, ◌≤◌, [], ◌∷◌, ◌++◌, length, sym, ap, subst, ◌∙◌, arith}
use Rattle.p25_script.specs.Values.{is_ascending, place_in}
use Rattle.p25_line.proofs.CommaReadLaws.{EntriesSoFar, EntriesSoFar-more, EntriesSoFar-start}
use Rattle.p25_script.proofs.{PlacesLaws.{below_next, is_ascending-push, next_place, next_place-push}, PlacesSteps.{places_in-end, places_in-low}}
use Rattle.p25_script.proofs.values.places_value.Goals as goal

pub loop-start-init : goal.loop-start-init
loop-start-init c =
    let none = c.new-places.ensures in record {
      so_far = subst (EntriesSoFar place_in c.args.word.now 0) (sym none) (EntriesSoFar-start place_in c.args.word.now);
      ascending = ap is_ascending none;
      least = sym (ap next_place none);
      low = omega arith;
      count = omega (arith, ap length none);
      within = omega arith;
    }

pub returns-then-place-least : goal.returns-then-place-least
returns-then-place-least c =
    let low : c.in_ok-place.place < next_place c.loop-start.places = omega (arith, c.if-place-least.true, c.loop-start.invariant.least) in
    sym (places_in-low c.args.word.now c.comma_part-part.result.now c.loop-start.start (c.loop-start.start + length c.comma_part-part.result.now + 1) c.loop-start.places c.in_ok-place.place
    (sym c.is_dash.ensures ∙ c.if-is_dash.false) c.loop-start.invariant.so_far c.comma_part-part.ensures.parts (sym c.in_ok-place.ensures.place) low)

pub push-requires-clause-above : goal.push-requires-clause-above
push-requires-clause-above c k d inside =
    let below = below_next c.loop-start.places c.loop-start.invariant.ascending k d inside in
    omega (arith, below, c.if-place-least.false, c.loop-start.invariant.least)

pub loop-start-preserved : goal.loop-start-preserved
loop-start-preserved c =
    let places = c.loop-start.places in
    let place = c.in_ok-place.place in
    let part = c.comma_part-part.result.now in
    let pushed : c.push.new.self ≡ places ++ place ∷ [] = c.push.ensures.list in
    let next : c.loop-start.start + length part + 1 ≡ c.loop-start.start + (length part + 1) = omega arith in
    let more = EntriesSoFar-more place_in c.args.word.now part c.loop-start.start
    (c.loop-start.start + length part + 1) places place c.loop-start.invariant.so_far c.comma_part-part.ensures.parts (sym c.in_ok-place.ensures.place) in
    let high : next_place places ≤ place = omega (arith, c.if-place-least.false, c.loop-start.invariant.least) in record {
      so_far = subst (λ i. EntriesSoFar place_in c.args.word.now i c.push.new.self) next (subst (EntriesSoFar place_in c.args.word.now (c.loop-start.start + length part + 1)) (sym pushed) more);
      ascending = ap is_ascending pushed ∙ is_ascending-push places place c.loop-start.invariant.ascending high;
      least = sym (ap next_place pushed ∙ next_place-push places place);
      low = omega (arith, c.in_ok-place.ensures.below);
      count = omega (arith, c.push.ensures.len, c.loop-start.invariant.count, c.in_ok-place.ensures.some);
      within = omega (arith, c.comma_part-part.ensures.within);
    }

pub returns : goal.returns
returns c =
    sym (places_in-end c.args.word.now c.loop-start.start c.loop-start.places
    (sym c.is_dash.ensures ∙ c.if-is_dash.false) c.loop-start.invariant.so_far c.loop-start-test.false c.loop-start.invariant.ascending)
