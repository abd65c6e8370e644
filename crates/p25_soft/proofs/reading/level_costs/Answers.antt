use Rattle.std.proofs.Common.{◌*◌, ◌<◌, arith}
use Rattle.p25_soft.proofs.PointLaws.{IsPointTable-from}
use Rattle.p25_soft.proofs.reading.level_costs.Goals as goal

pub returns-clause-costs : goal.returns-clause-costs
returns-clause-costs c =
    IsPointTable-from c.args.levels.now c.sent_places-places.result c.loop-step.costs c.sent_places-places.ensures.len c.sent_places-places.ensures.in_order
    (λ k below. let there : k < 16 * c.loop-step.step = omega arith in (c.loop-step.invariant.so_far k there).0)
