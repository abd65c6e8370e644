use Rattle.std.proofs.Common.{arith}
use Rattle.p25_unit_front.proofs.FrontSteps.{identifier_number}
use Rattle.p25_unit_front.proofs.front.identifier.Goals as goal

pub returns-clause-value : goal.returns-clause-value
returns-clause-value c = identifier_number c.args.bits.now c.args.at c.field-before.result c.field.result (omega arith) c.field-before.ensures.value c.field.ensures.value
