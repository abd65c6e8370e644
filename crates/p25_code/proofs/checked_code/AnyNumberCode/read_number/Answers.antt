use Rattle.p25_code.proofs.NumberCodeLaws.{information_fits, sum_fits, read_clean, read_without, read_none, without_fits}
use Rattle.p25_code.proofs.checked_code.AnyNumberCode.read_number.Goals as goal

pub check_bits-requires : goal.check_bits-requires
check_bits-requires g c =
    information_fits g.C.CheckedCode.code c.args.received _ (rw c.PARAMETERS-n.ensures) c.requires.received

pub wrong_bits-requires : goal.wrong_bits-requires
wrong_bits-requires g c =
    sum_fits g.C.CheckedCode.code c.args.received c.check_bits.result _
    c.requires.received (rw c.PARAMETERS-n.ensures) c.check_bits.ensures

pub returns-then-syndrome-eq0-clause-reading : goal.returns-then-syndrome-eq0-clause-reading
returns-then-syndrome-eq0-clause-reading g c =
    read_clean g.C.CheckedCode.code c.args.received c.check_bits.result _
    c.requires.received (rw c.PARAMETERS-n.ensures) c.check_bits.ensures c.if-syndrome-eq0.true

pub returns-in_err-wrong-clause-reading : goal.returns-in_err-wrong-clause-reading
returns-in_err-wrong-clause-reading g c =
    read_none g.C.CheckedCode.code c.args.received c.check_bits.result _
    c.requires.received (rw c.PARAMETERS-n.ensures) c.check_bits.ensures c.in_err-wrong.ensures c.from_residual.result c.from_residual.ensures

pub returns-clause-reading : goal.returns-clause-reading
returns-clause-reading g c =
    read_without g.C.CheckedCode.code c.args.received c.check_bits.result _
    c.requires.received (rw c.PARAMETERS-n.ensures) c.check_bits.ensures c.in_ok-wrong.wrong c.in_ok-wrong.ensures

pub returns-clause-fits : goal.returns-clause-fits
returns-clause-fits g c =
    without_fits g.C.CheckedCode.code c.args.received c.check_bits.result _
    c.requires.received (rw c.PARAMETERS-n.ensures) c.check_bits.ensures c.in_ok-wrong.wrong c.in_ok-wrong.ensures
