use Rattle.std.proofs.{Common.{arith}, lemmas.Bool.{eqb-true}}
use Rattle.p25_reed_solomon.proofs.PackedSteps.{octets_zero}
use Rattle.p25_reed_solomon.proofs.packed.are_zero.Goals as goal

pub returns-then-count-gt8 : goal.returns-then-count-gt8
returns-then-count-gt8 c = λ none b low. octets_zero c.args.values 12 b (eqb-true _ _ none) (omega arith)

pub returns-else-count-gt8 : goal.returns-else-count-gt8
returns-else-count-gt8 c = λ none b low. octets_zero c.args.values 8 b (eqb-true _ _ none) (omega arith)
