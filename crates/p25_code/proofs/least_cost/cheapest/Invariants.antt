use Rattle.p25_bits.specs.Least.{IsLowestLeast}
use Rattle.p25_code.specs.LeastCost.{information_cost}
use Rattle.p25_code.proofs.least_cost.cheapest.Given as goal

abbrev pub invariant-loop-info : goal.invariant-loop-info
invariant-loop-info g l = IsLowestLeast l.info (information_cost g.C.BlockCode.encoding_is g.C.BlockCode.K l.costs) l.best l.least
