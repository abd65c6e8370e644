use Rattle.std.proofs.Common.{rules, ◌≡◌, ◌*◌, ◌≤◌, ap, ap₂, sym, subst, ◌∙◌, FitsSigned, w8}
use Rattle.std.specs.Prelude.{unsigned_abs, min, ◌-ℤ◌}
use Rattle.p25_soft.specs.Levels.{nominal_level}
use Rattle.p25_soft.proofs.LevelSteps.{apart-is}
use Rattle.p25_decide.specs.LevelCosts.{level_cost}
use Rattle.p25_decide.proofs.CostsLaws.{level_cost-le}
use Rattle.p25_decide.proofs.costs.level_cost.Goals as goal

pub returns-clause-cost : goal.returns-clause-cost
unfolding level_cost
returns-clause-cost c =
    let fits : FitsSigned w8 c.nominal.result = search rules in
    let apart = apart-is c.args.level c.nominal.result c.from.result
    c.from-2.result c.unsigned_abs.result c.ranges.level fits c.from.ensures c.from-2.ensures c.unsigned_abs.ensures.value in
    let is : c.min-apart.result ≡ min (unsigned_abs (c.args.level -ℤ nominal_level c.args.dibit)) 96
    = c.min-apart.ensures ∙ ap (λ n. min n 96) (apart ∙ ap (λ z. unsigned_abs (c.args.level -ℤ z)) c.nominal.ensures) in
    ap₂ ◌*◌ is is

pub returns-clause-most : goal.returns-clause-most
returns-clause-most c = subst (λ n. n ≤ 9216) (sym (returns-clause-cost c)) (level_cost-le c.args.level c.args.dibit)
