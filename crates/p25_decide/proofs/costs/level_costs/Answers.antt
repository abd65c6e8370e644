use Rattle.std.proofs.{Common.{◌≡◌, ap, ◌∙◌, to_z, of_z, w8}, lemmas.Int.{to_z-of_z}}
use Rattle.p25_decide.specs.LevelCosts.{level_cost}
use Rattle.p25_decide.proofs.CostsLaws.{level_costs-from}
use Rattle.p25_decide.proofs.costs.level_costs.Goals as goal

pub returns-clause-list : goal.returns-clause-list
returns-clause-list c =
    let back : to_z w8 (of_z w8 c.args.level) ≡ c.args.level = to_z-of_z w8 c.args.level c.ranges.level in
    level_costs-from c.args.level c.level_cost.result c.level_cost-2.result c.level_cost-3.result c.level_cost-4.result
    (c.level_cost.ensures.cost ∙ ap (λ l. level_cost l 0) back)
    (c.level_cost-2.ensures.cost ∙ ap (λ l. level_cost l 1) back)
    (c.level_cost-3.ensures.cost ∙ ap (λ l. level_cost l 2) back)
    (c.level_cost-4.ensures.cost ∙ ap (λ l. level_cost l 3) back)
