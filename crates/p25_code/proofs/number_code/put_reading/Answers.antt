use Rattle.std.proofs.Common.{arith}
use Rattle.p25_code.proofs.NumberCodeLaws.{changed_bits, unchanged_bits}
use Rattle.p25_code.proofs.number_code.put_reading.Goals as goal

pub returns-then-fixes-gt0 : goal.returns-then-fixes-gt0
returns-then-fixes-gt0 c =
    let in_some = c.in-Some in
    rw in_some.is
    (changed_bits c.args.received in_some.number c.args.word.now c.put_number.new.bits c.requires.received (rw in_some.is at c.requires.fits) (cc (c.put_number.ensures, c.from.ensures)))

pub returns-else-fixes-gt0 : goal.returns-else-fixes-gt0
returns-else-fixes-gt0 c =
    let in_some = c.in-Some in
    rw in_some.is
    (unchanged_bits c.args.received in_some.number c.args.word.now c.requires.received (rw in_some.is at c.requires.fits) (omega arith))
