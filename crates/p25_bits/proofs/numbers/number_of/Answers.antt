use Rattle.std.proofs.{Common.{◌<◌, false, arith, get_or, sym, subst, ◌^◌}, lemmas.List.{drop_all}}
use Rattle.p25_bits.proofs.BitsLaws.{digit_of-byte, digit_of-le, field_after-drop, field_after-nil, field_of-after, more-lt}
use Rattle.p25_bits.proofs.numbers.number_of.Goals as goal

pub loop-bit-init : goal.loop-bit-init
loop-bit-init c = (omega arith, sym (field_of-after c.args.bits.now))

pub loop-bit-preserved : goal.loop-bit-preserved
loop-bit-preserved c =
    let loop = c.loop-bit in
    let bits = c.args.bits.now in
    let i = loop.bit-index in
    let b = get_or bits i false in
    let e = digit_of-byte c.from.result b c.from.ensures in (
      more-lt loop.number c.from.result i loop.invariant.0 (omega (arith, digit_of-le b, e)),
      cc (e, field_after-drop loop.number bits i (omega arith), loop.invariant.1),
    )

pub returns-clause-value : goal.returns-clause-value
returns-clause-value c =
    let loop = c.loop-bit in
    cc (field_after-nil loop.number, drop_all loop.bit-index c.args.bits.now (omega arith), loop.invariant.1)

pub returns-clause-fits : goal.returns-clause-fits
returns-clause-fits c =
    subst (λ n. c.loop-bit.number < 2 ^ n) (omega arith) c.loop-bit.invariant.0
