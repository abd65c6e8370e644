use Rattle.std.proofs.{Common.{◌-◌, ◌<◌, bit_xor, get_or, length, refl, arith}, lemmas.Nat.{xor_lt}}
use Rattle.p25_code.proofs.WrongLaws.{row-lt, checks_wrong, row_wrong, row_bits, none_by_rows}
use Rattle.p25_code.proofs.wrong_bits.wrong_by_rows.Goals as goal

pub returns-then-sum-radius : goal.returns-then-sum-radius
returns-then-sum-radius c =
    let args = c.args in
    rw c.from.ensures (checks_wrong args.rows.now args.checks args.radius args.sum c.requires.sum c.if-sum-radius.true)

pub returns-then-rest-radius : goal.returns-then-rest-radius
returns-then-rest-radius c =
    let args = c.args in
    let checks = args.checks in
    let rows = args.rows.now in
    let i = c.loop-i.i in
    let rest = bit_xor args.sum (get_or rows i 0) in
    let inside : i < length rows = omega arith in
    let small = xor_lt checks args.sum (get_or rows i 0) c.requires.sum (row-lt checks rows i c.requires.fits inside) in
    row_wrong rows checks args.radius args.sum i rest _ inside small refl c.if-rest-radius.true (cc (c.from-then-rest-radius.ensures, row_bits (length rows - 1 - i) checks rest (omega (arith, c.requires.rows, c.requires.checks)) small))

pub returns : goal.returns
returns c =
    none_by_rows c.args.rows.now c.args.checks c.args.radius c.args.sum c.if-sum-radius.false (λ i inside. c.loop-i.invariant i (omega arith))
