use Rattle.std.proofs.{Common.{◌≡◌, ◌+◌, ◌-◌, decimal, arith, append_assoc, append-nil}, lemmas.List.{drop_all}}
use Rattle.p25_line.proofs.{PairLaws.{decimal_pair, length_pair}, DecimalLaws.{decimal_short}}
use Rattle.p25_line.proofs.decimal.write_decimal.Goals as goal

pub loop-left-init : goal.loop-left-init
loop-left-init c = (decimal_short c.args.number c.ranges.number.fits, omega arith, rw (drop_all 20 c.args.room.now (omega arith)) (append-nil (decimal c.args.number)))

pub overflow_sub-at : goal.overflow_sub-at
overflow_sub-at c = omega (arith, length_pair c.loop-left.left c.loop-left-test.true c.loop-left.auto.left-fits.fits)

pub loop-left-preserved : goal.loop-left-preserved
loop-left-preserved c =
    let l = c.loop-left in
    let long = length_pair c.loop-left.left c.loop-left-test.true c.loop-left.auto.left-fits.fits in
    let b : l.at - 2 + 2 ≡ l.at = omega arith in (
      omega arith,
      omega arith,
      rw (c.write_pair.ensures, b) (rw (decimal_pair l.left c.loop-left-test.true l.auto.left-fits.fits, append_assoc) at l.invariant.2),
    )
