use Rattle.std.proofs.Common.{◌+◌, List, Bool, refl, ap, sym, ◌∙◌, arith}
use Rattle.p25_bits.specs.Bits.{flipped}
use Rattle.p25_vectors.proofs.DamageLaws.{inverted-none, inverted-more}
use Rattle.p25_vectors.proofs.damage.invert.Goals as goal

pub loop-k-init : goal.loop-k-init
loop-k-init c = (sym (inverted-none c.args.at c.args.bits.now), refl)

pub overflow_add-at : goal.overflow_add-at
overflow_add-at c = omega (arith, c.ranges.at, c.ranges.count, c.requires, c.loop-k-test.true, c.loop-k.invariant)

pub loop-k-preserved : goal.loop-k-preserved
loop-k-preserved c = (
  c.flip.ensures.list
      ∙ ap (λ (xs : List Bool). flipped xs (c.args.at + c.loop-k.k)) c.loop-k.invariant.0
      ∙ sym (inverted-more c.args.at c.loop-k.k c.args.bits.now),
  c.flip.ensures.len ∙ c.loop-k.invariant.1,
)
