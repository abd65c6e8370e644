use Rattle.std.proofs.{Common.{◌≡◌, ◌+◌, ◌*◌, take, drop, refl, sym, subst, ◌∙◌, arith}, lemmas.List.{length-set}}
use Rattle.p25_bits.specs.Numbers.{numbers_from}
use Rattle.p25_bits.proofs.{NumbersLaws.{numbers_from-zero}, LoopLaws.{take_more_of_eight}}
use Rattle.p25_bits.proofs.bit_buf.BitBuf.take_eights.Goals as goal

pub loop-g-init : goal.loop-g-init
loop-g-init c = (refl, sym (numbers_from-zero 8 _))

pub loop-k-init : goal.loop-k-init
loop-k-init c =
    let loop = c.loop-g in
    let none : 8 * loop.g ≡ 8 * loop.g + 0 = omega arith in
    (loop.invariant.0, rw none at loop.invariant.1)

pub loop-k-preserved : goal.loop-k-preserved
loop-k-preserved c = (
  length-set c.loop-k.octets _ _ ∙ c.loop-k.invariant.0,
  take_more_of_eight c.args.self.now c.args.at (8 * c.loop-g.g) c.loop-k.k c.field-eight.result c.loop-k.octets
      (omega arith) (omega (arith, c.requires)) (omega (arith, c.loop-k.invariant.0)) c.field-eight.ensures.value c.loop-k.invariant.1,
)

pub loop-g-preserved : goal.loop-g-preserved
loop-g-preserved c =
    let loop = c.loop-k in
    (loop.invariant.0, subst (λ n. take n loop.octets ≡ numbers_from 8 n (drop c.args.at c.args.self.now)) (omega arith) loop.invariant.1)
