use Rattle.std.proofs.{Common.{◌-◌, ◌*◌, ◌/◌, length, take, drop, refl, ap, ◌∙◌, arith, length-drop}, lemmas.List.{take_all}}
use Rattle.p25_bits.proofs.BitBufSteps.{extended_more, extended_all}
use Rattle.p25_bits.proofs.bit_buf.BitBuf.extend.Goals as goal

pub loop-k-preserved : goal.loop-k-preserved
loop-k-preserved c = (
  cc (c.put_field.ensures.list, c.loop-k.invariant.0, extended_more c.args.self.now c.args.bits.now c.loop-k.k c.number_of.result _ (omega arith) (omega arith) c.number_of.ensures.value),
  omega (arith, c.put_field.ensures.len, c.loop-k.invariant.1),
)

pub returns-clause-list : goal.returns-clause-list
returns-clause-list c =
    let bits = c.args.bits.now in
    let words = length bits / 64 in
    let rest = take (length bits - 64 * words) (drop (64 * words) bits) in
    cc (
      c.put_field-2.ensures.list,
      c.loop-k.invariant.0,
      extended_all c.args.self.now bits rest c.loop-k.k (length rest) c.number_of-2.result
          (take_all (length bits - 64 * words) (drop (64 * words) bits) (omega (arith, length-drop (64 * words) bits)) ∙ ap (λ n. drop (64 * n) bits) (omega arith)) refl c.number_of-2.ensures.value,
    )
