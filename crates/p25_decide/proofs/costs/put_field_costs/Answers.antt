use Rattle.std.proofs.Common.{◌≡◌, ℕ, ◌+◌, ◌*◌, ◌/◌, ◌^◌, ◌≤◌, All, List, length, get_or, ap, sym, subst, ◌∙◌, arith}
use Rattle.p25_coded_fields.proofs.{DecidedLaws.{joined_first, joined_next, joined_all}, SymbolsLaws.{length_group, room_at}}
use Rattle.p25_decide.specs.LevelCosts.{field_costs, word_level_costs}
use Rattle.p25_decide.proofs.CostsLaws.{field_costs-low, length-word_level_costs}
use Rattle.p25_decide.proofs.costs.put_field_costs.Goals as goal

pub loop-i-init : goal.loop-i-init
loop-i-init c = joined_first _ (2 * c.args.size) c.args.costs.now

pub loop-i-preserved : goal.loop-i-preserved
loop-i-preserved c =
    let i = c.loop-i.i in
    let size = c.args.size in
    let costs = c.loop-i.costs in
    let places = c.args.places.now in
    let at = get_or places i 0 in
    let there : 2 * size * i + 2 * size ≤ length costs = room_at (2 * size) i (length places) (length costs) (omega arith) (sym c.requires.costs ∙ omega arith) in
    let long = length_group (2 * size) i costs there in
    let half : 2 * size / 4 ≡ size / 2 = omega (arith, c.requires.pairs) in
    let is = c.put_costs.ensures ∙ ap (λ k. word_level_costs c.args.levels.now (at / 2) (k / 4)) long ∙ ap (word_level_costs c.args.levels.now (at / 2)) half in
    let full : length (word_level_costs c.args.levels.now (at / 2) (size / 2)) ≡ 2 * size = length-word_level_costs _ _ _ ∙ omega (arith, c.requires.pairs) in
    joined_next _ (2 * size) i _ costs c.put_costs.new.costs there (ap length is ∙ full) c.loop-i.invariant is

pub returns-clause-list : goal.returns-clause-list
unfolding field_costs
returns-clause-list c =
    let n = length c.args.places.now in
    let here : c.loop-i.i ≡ n = omega arith in
    joined_all _ (2 * c.args.size) c.loop-i.i n c.loop-i.costs here (sym c.requires.costs ∙ omega arith) c.loop-i.invariant

pub returns-clause-low : goal.returns-clause-low
returns-clause-low c =
    subst (λ (xs : List ℕ). All (λ cost. cost ≤ 2 ^ 16) xs) (sym (returns-clause-list c)) (field_costs-low c.args.size c.args.places.now c.args.levels.now)
