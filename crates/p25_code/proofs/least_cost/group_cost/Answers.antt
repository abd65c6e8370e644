use Rattle.std.proofs.Common.{◌≡◌, ◌+◌, ◌*◌, ◌/◌, ◌%◌, get_or, drop, arith, ap}
use Rattle.std.proofs.lemmas.List.{get_or-drop}
use Rattle.p25_code.proofs.LeastCostLaws.{pairs_cost-six}
use Rattle.p25_code.proofs.least_cost.group_cost.Goals as goal

pub returns-clause-value : goal.returns-clause-value
returns-clause-value c =
    let costs = c.args.costs.now in
    let at = c.args.at in
    let first = 12 * (at / 64) in
    let second : first + 4 + at / 4 % 4 ≡ first + (4 + at / 4 % 4) = omega arith in
    let third : first + 8 + at % 4 ≡ first + (8 + at % 4) = omega arith in
    omega (
      arith,
      pairs_cost-six at (drop first costs),
      get_or-drop first costs (at / 16 % 4) 0,
      get_or-drop first costs,
      get_or-drop first costs (8 + at % 4) 0,
      ap (λ i. get_or costs i 0) second,
      ap (λ i. get_or costs i 0) third,
    )
