use Rattle.std.proofs.Common.{◌^◌, ◌≤◌, refl, arith}
use Rattle.std.proofs.lemmas.List.Elements.{All-append, All-replicate}
use Rattle.p25_code.proofs.LeastCostLaws.{padded_is}
use Rattle.p25_code.proofs.least_cost.padded.Goals as goal

list_is : goal.returns-clause-list
list_is c = padded_is _ _ c.copy_from_slice.new.self c.args.costs.now refl c.requires.few c.copy_from_slice.ensures.after

pub returns-clause-list : goal.returns-clause-list
returns-clause-list c = list_is c

pub returns-clause-low : goal.returns-clause-low
returns-clause-low c =
    let costs = c.args.costs.now in
    rw (list_is c) (All-append (λ cost. cost ≤ 2 ^ 16) _ costs
    (All-replicate (λ cost. cost ≤ 2 ^ 16) _ 0 (omega arith)) c.requires.low)
