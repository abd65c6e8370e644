use Rattle.std.proofs.{Common.{ℕ, ◌^◌, ◌≤◌, ◌<◌, length, decimal, arith}, lemmas.Fmt.{length-decimal-le}}
use Rattle.p25_suite.proofs.tests.put_named.Goals as goal

pub put_number-requires : goal.put_number-requires
put_number-requires c =
    let short : length (decimal c.args.number) ≤ 20 = length-decimal-le 20 c.args.number (omega arith) (omega arith) c.ranges.number.fits in
    omega (arith, short, c.put.ensures.len, c.if-len-le4000.true, c.if-name-le20.true)
