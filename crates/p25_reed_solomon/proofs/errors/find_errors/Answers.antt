use Rattle.std.proofs.{Common.{◌≡◌, ◌+◌, ◌<◌, length, take, ap, sym, ◌∙◌, arith}, lemmas.Bool.{both_ways}, lemmas.List.{get_or-take, length-take}}
use Rattle.p25_gf64.specs.Gf64.{gf64}
use Rattle.p25_reed_solomon.proofs.ErrorsSteps.{part_is_locator, value_is_error, sums_of_errors, placed_explains}
use Rattle.p25_reed_solomon.proofs.errors.find_errors.Goals as goal

pub returns-then-not-are_sums-clause-complete : goal.returns-then-not-are_sums-clause-complete
returns-then-not-are_sums-clause-complete c =
    let most_here = c.locate-most in
    let args = c.args in
    let syndromes = args.syndromes.now in
    let erased = args.erased.now in
    let new = most_here.new in
    λ errors explains.
    let n = length erased in
    let most = most_here.result in
    let locator = take (most + 1) new.locator in
    let evaluator = take most new.evaluator in
    let places = c.as_slice-places.result.now in
    let long : length locator ≡ most + 1 = omega (arith, length-take (most + 1) new.locator) in
    let high : length evaluator ≡ most = omega (arith, length-take most new.evaluator) in
    let is = part_is_locator n args.checks syndromes erased most new.locator new.evaluator most_here.ensures.locator in
    let are = rw (sym c.as_slice-places.ensures.value) at c.zeros-listed.ensures.zeros in
    absurd (both_ways c.are_sums.result c.if-not-are_sums.true
    (c.are_sums.ensures.1 (λ r low.
    let within : r < args.checks = omega (arith, length-take args.checks syndromes) in
    (sums_of_errors n args.checks most syndromes locator evaluator erased places long high is are errors explains _ (value_is_error n args.checks most syndromes locator evaluator erased places long high is are errors explains
    _ c.fill_errors.ensures.errors)) r within ∙ sym (get_or-take args.checks syndromes r gf64.zero within))))

pub returns-clause-found : goal.returns-clause-found
returns-clause-found c =
    let most_here = c.locate-most in
    let syndromes = c.args.syndromes.now in
    let checks = c.args.checks in
    let erased = c.args.erased.now in
    let new = most_here.new in
    λ yes'.
    let n = length erased in
    let most = most_here.result in
    placed_explains n checks most syndromes _ (take most new.evaluator) erased c.as_slice-places.result.now (omega (arith, length-take (most + 1) new.locator)) (omega (arith, length-take most new.evaluator))
    (part_is_locator n checks syndromes erased most new.locator new.evaluator most_here.ensures.locator) (rw (sym c.as_slice-places.ensures.value) at c.zeros-listed.ensures.zeros) _ _
    most_here.ensures.most (omega (arith, ap length c.as_slice-places.ensures.value, c.zeros-listed.ensures.few))
    (λ r low.
    c.are_sums.ensures.0 c.if-not-are_sums.false r (omega (arith, length-take checks syndromes)) ∙ get_or-take checks syndromes r gf64.zero low)
    (λ j low. c.place.ensures j (omega arith))
