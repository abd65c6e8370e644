use Rattle.std.proofs.Common.{arith}
use Rattle.p25_code.specs.LeastCost.{information_cost}
use Rattle.p25_code.proofs.LeastCostLaws.{power-le, table_cost}
use Rattle.p25_code.proofs.least_cost.cost_by.Goals as goal

pub bounds-sums-word : goal.bounds-sums-word
bounds-sums-word g c = omega (arith, c.encode_number-word.ensures.fits, power-le g.C.BlockCode.N 24)

pub returns-clause-value : goal.returns-clause-value
unfolding information_cost
returns-clause-value g c = λ costs long table.
    cc (table_cost g.C.BlockCode.N _ c.encode_number-word.result costs c.args.sums.now c.requires.small c.requires.pairs long c.encode_number-word.ensures.fits table, c.encode_number-word.ensures.encoding)
