use Rattle.p25_golay.proofs.Golay18Steps.{wrong_inside, wrong_outside, wrong_nowhere}
use Rattle.p25_golay.proofs.golay18.Golay18CheckedCode.wrong_bits.Goals as goal

pub returns-in_err-wrong : goal.returns-in_err-wrong
returns-in_err-wrong c = wrong_nowhere c.args.syndrome c.from_residual.result c.from_residual.ensures c.in_err-wrong.ensures

pub returns-then-wrong : goal.returns-then-wrong
returns-then-wrong c = wrong_inside c.args.syndrome c.in_ok-wrong.wrong c.if-wrong.true c.in_ok-wrong.ensures

pub returns-else-wrong : goal.returns-else-wrong
returns-else-wrong c = wrong_outside c.args.syndrome c.in_ok-wrong.wrong c.if-wrong.false c.in_ok-wrong.ensures
