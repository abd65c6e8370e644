use Rattle.std.proofs.Common.{◌<◌, length, refl, arith}
use Rattle.p25_bits.specs.Distance.{distance_by}
use Rattle.p25_bits.proofs.{DistanceLaws.{ones-xor-le}, WordsLaws.{distance_more}}
use Rattle.p25_bits.proofs.words.differing.Goals as goal

pub loop-k-init : goal.loop-k-init
unfolding distance_by
loop-k-init c = (omega arith, refl)

pub overflow_add-places : goal.overflow_add-places
overflow_add-places c =
    omega (arith, c.loop-k.invariant.0, ones-xor-le 64)

pub loop-k-preserved : goal.loop-k-preserved
loop-k-preserved c =
    let k = c.loop-k.k in
    let here : k < length c.args.a.now = omega arith in
    let there : k < length c.args.b.now = omega arith in (
      omega (arith, c.loop-k.invariant.0, (ones-xor-le 64)),
      omega (arith, c.loop-k.invariant.1, distance_more),
    )
