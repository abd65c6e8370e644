use Rattle.std.proofs.{Common.{◌+◌, ◌≤◌, length, drop, sym, ap, ◌∙◌, arith}, Math.Nat.{mul-le-mul_left}, Math.Pow.{pow_mono}, lemmas.List.{take_all}}
use Rattle.p25_bits.specs.Numbers.{numbers_from}
use Rattle.p25_bits.proofs.{NumbersLaws.{more_bits}, LoopLaws.{take_more_read}}
use Rattle.p25_bits.proofs.bit_buf.BitBuf.take_from.Goals as goal

pub loop-i-init : goal.loop-i-init
loop-i-init c = c.requires.before

pub overflow_mul-width : goal.overflow_mul-width
overflow_mul-width c =
    let more : c.loop-i.i ≤ length c.args.numbers.now = omega arith in
    omega (arith, mul-le-mul_left c.args.width more)

pub overflow_add-at : goal.overflow_add-at
overflow_add-at c =
    let more : c.loop-i.i ≤ length c.args.numbers.now = omega arith in
    omega (arith, mul-le-mul_left c.args.width more)

pub field-requires : goal.field-requires
field-requires c =
    let more : c.loop-i.i + 1 ≤ length c.args.numbers.now = omega arith in record {
      width = omega arith;
      there = omega (arith, more_bits, mul-le-mul_left c.args.width more);
    }

pub overflow_cast-numbers : goal.overflow_cast-numbers
overflow_cast-numbers c = omega (arith, pow_mono c.requires.width, c.field.ensures.fits)

pub loop-i-preserved : goal.loop-i-preserved
loop-i-preserved c =
    let loop = c.loop-i in
    take_more_read c.args.self.now c.args.at c.args.width loop.numbers loop.i c.field.result (omega arith) c.field.ensures.value loop.invariant

pub returns : goal.returns
returns c =
    let loop = c.loop-i in
    sym (take_all loop.i loop.numbers (omega arith)) ∙ loop.invariant ∙ ap (λ n. numbers_from c.args.width n (drop c.args.at c.args.self.now)) (omega arith)
