use Rattle.std.proofs.{Common.{rules, ◌≡◌, ◌*◌, ◌≤◌, ap, ◌∙◌, ap₂, arith, FitsSigned, w8}, Math.Nat.{mul-le-mul}}
use Rattle.std.specs.Prelude.{unsigned_abs, ◌-ℤ◌}
use Rattle.p25_soft.specs.Levels.{nominal_level, squared_deviation}
use Rattle.p25_soft.proofs.LevelSteps.{apart-is, apart-le}
use Rattle.p25_soft.proofs.level.deviation.Goals as goal

pub returns-clause-square : goal.returns-clause-square
unfolding squared_deviation
returns-clause-square c =
    let fits : FitsSigned w8 c.nominal.result = search rules in
    let apart = apart-is c.args.level c.nominal.result c.from.result
    c.from-2.result c.unsigned_abs-apart.result c.ranges.level fits c.from.ensures c.from-2.ensures c.unsigned_abs-apart.ensures.value in
    let is : c.unsigned_abs-apart.result ≡ unsigned_abs (c.args.level -ℤ nominal_level c.args.dibit)
    = apart ∙ ap (λ z. unsigned_abs (c.args.level -ℤ z)) c.nominal.ensures in
    ap₂ ◌*◌ is is

pub returns-clause-most : goal.returns-clause-most
returns-clause-most c =
    let fits : FitsSigned w8 c.nominal.result = search rules in
    let apart = apart-is c.args.level c.nominal.result c.from.result
    c.from-2.result c.unsigned_abs-apart.result c.ranges.level fits c.from.ensures c.from-2.ensures c.unsigned_abs-apart.ensures.value in
    let few : c.unsigned_abs-apart.result ≤ 255 = omega (arith, apart, apart-le c.args.level c.nominal.result c.ranges.level fits) in
    mul-le-mul few few
