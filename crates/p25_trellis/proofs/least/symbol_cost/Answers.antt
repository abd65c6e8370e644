use Rattle.std.proofs.Common.{◌∙◌, arith}
use Rattle.p25_trellis.proofs.CostLaws.{step_cost-sum}
use Rattle.p25_trellis.proofs.least.symbol_cost.Goals as goal

pub returns : goal.returns
returns g c =
    step_cost-sum g.R.Rate.point_of c.args.costs.now c.args.rests.now c.args.step c.args.state c.args.symbol c.from.result c.from-2.result (c.from.ensures ∙ c.point.ensures.value) c.from-2.ensures

pub overflow_add-result-4 : goal.overflow_add-result-4
overflow_add-result-4 g c =
    omega (
      arith,
      step_cost-sum g.R.Rate.point_of c.args.costs.now c.args.rests.now c.args.step c.args.state c.args.symbol c.from.result c.from-2.result
          (c.from.ensures ∙ c.point.ensures.value) c.from-2.ensures,
      c.requires.fits,
    )
