use Rattle.std.proofs.{Common.{rules, ◌+◌, ◌*◌, ◌/◌, ◌%◌, ap, ap₂, ◌∙◌, get_or, FitsSigned, w8, pos}, lemmas.Int.{to_z-of_z}}
use Rattle.p25_soft.specs.{Levels.{squared_deviation}, PointCosts.{point_deviation}}
use Rattle.p25_soft.proofs.reading.point_cost.Goals as goal

pub returns-clause-cost : goal.returns-clause-cost
unfolding point_deviation
returns-clause-cost c =
    let levels = c.args.levels.now in
    let first : FitsSigned w8 (get_or levels (2 * c.args.place) (pos 0)) = search rules in
    let second : FitsSigned w8 (get_or levels (2 * c.args.place + 1) (pos 0)) = search rules in
    ap₂ ◌+◌
    (c.deviation.ensures.square ∙ ap (squared_deviation (c.args.nibble / 4)) (to_z-of_z w8 (get_or levels (2 * c.args.place) (pos 0)) first))
    (c.deviation-2.ensures.square ∙ ap (squared_deviation (c.args.nibble % 4)) (to_z-of_z w8 (get_or levels (2 * c.args.place + 1) (pos 0)) second))
