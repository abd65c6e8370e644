use Rattle.std.proofs.Common.{length}
use Rattle.p25_code.proofs.WrongLaws.{high_fits, number_sum-lt, shifted_halves, halves_wrong, none_by_halves}
use Rattle.p25_code.proofs.wrong_bits.wrong_by_halves.Goals as goal

pub wrong_by_rows-requires-2-clause-sum : goal.wrong_by_rows-requires-2-clause-sum
wrong_by_rows-requires-2-clause-sum c =
    rw c.requires.turned_sum (number_sum-lt _ c.args.turned.now c.args.sum c.requires.turned_fits)

pub returns-in_err-wrong : goal.returns-in_err-wrong
returns-in_err-wrong c =
    rw c.from_residual.ensures
    (none_by_halves c.args.rows.now c.args.turned.now c.requires.inverse c.args.radius c.args.sum c.args.turned_sum c.requires.turned_sum c.requires.radius c.in_default.ensures c.in_err-wrong.ensures)

pub returns : goal.returns
returns c =
    let args = c.args in
    let rows = args.rows.now in
    let half = length rows in
    let wrong = c.in_ok-wrong.wrong in
    let are = c.in_ok-wrong.ensures in
    rw (shifted_halves half wrong c.requires.rows (rw c.requires.inverse.long at (high_fits args.turned.now half wrong are.fits)))
    (halves_wrong rows args.turned.now c.requires.inverse args.radius args.sum args.turned_sum c.requires.turned_sum wrong c.requires.sum are)
