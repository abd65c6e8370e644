use Rattle.std.proofs.Common.{length, ap, sym, ◌∙◌, arith}
use Rattle.p25_bits.specs.Numbers.{number_bits}
use Rattle.p25_bits.proofs.{DistanceLaws.{ones-xor-le}, BitBufSteps.{length-held, distance_held}}
use Rattle.p25_bits.proofs.bit_buf.BitBuf.distance.Goals as goal

pub field-requires-clause-there : goal.field-requires-clause-there
field-requires-clause-there c =
    omega (arith, length-held, ap length c.a.view_is)

pub field-requires-2-clause-there : goal.field-requires-2-clause-there
field-requires-2-clause-there c =
    omega (arith, length-held, ap length c.a.view_is, c.requires)

pub overflow_add-result : goal.overflow_add-result
overflow_add-result c =
    omega (arith, c.differing.ensures.most, ones-xor-le 64, c.a.invariant)

pub returns : goal.returns
returns c =
    let a = c.a.inside in
    let b = c.b.inside in
    let long_a = sym (ap length c.a.view_is) ∙ length-held a.words a.len (omega (arith, c.a.invariant)) in
    let long_b = sym c.requires ∙ long_a in
    cc (
      c.differing.ensures.value,
      distance_held c.args.a.now c.args.b.now _
          (number_bits 64 b.words) a.len c.field.result c.field-2.result c.a.view_is
          (cc (long_b, c.b.view_is, length-held b.words b.len (omega (arith, c.b.invariant)), c.b.view_is)) long_a long_b c.field.ensures.value c.field-2.ensures.value,
    )
