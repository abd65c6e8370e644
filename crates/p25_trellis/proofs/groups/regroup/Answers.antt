use Rattle.std.proofs.{Common.{◌≡◌, ◌+◌, ◌-◌, ◌*◌, ◌≤◌, length, take, drop, ap, sym, ◌∙◌, arith}, Math.Nat.{mul-zero, mul-le-mul_left}}
use Rattle.p25_bits.specs.{Bits.{bits_of, part}, Numbers.{number_bits}}
use Rattle.p25_bits.proofs.{NumbersLaws.{numbers_from-zero}, PartLaws.{length-part}}
use Rattle.p25_trellis.proofs.GroupSteps.{count_more, groups_more, group_anew}
use Rattle.p25_trellis.proofs.groups.regroup.Goals as goal

pub loop-g-init : goal.loop-g-init
loop-g-init c =
    let args = c.args in
    ap (λ n. take n args.target.now) (mul-zero args.from) ∙ sym (cc (mul-zero args.from, numbers_from-zero args.to (number_bits args.from args.source.now)))

pub loop-g-preserved : goal.loop-g-preserved
loop-g-preserved c =
    let from = c.args.from in
    let to = c.args.to in
    let step = c.loop-g.g in
    let source = c.args.source.now in
    let target = c.loop-g.target in
    let whole = c.joined-whole.result in
    let group = c.put_apart.new.numbers in
    let early : step + 1 ≤ 6 = omega (arith, c.loop-g-test.true) in
    let taken : to * step + to ≤ length source = omega (arith, count_more to step, mul-le-mul_left to early, c.requires.source) in
    let fits : from * step + from ≤ length target = omega (arith, count_more from step, mul-le-mul_left from early, c.loop-g.auto.target, c.requires.target) in
    let there : from * step ≤ length target = omega arith in
    let put_count : from * step + from - from * step ≡ from = omega arith in
    let taken_count : to * step + to - to * step ≡ to = omega arith in
    let written : bits_of (from * to) whole ≡ number_bits from (part (to * step) to source)
    = cc ((ap (λ k. length (take k (drop (to * step) source))) taken_count ∙ length-part (to * step) to source taken), c.joined-whole.ensures.bits, taken_count) in
    groups_more to from step (number_bits from source) target group there (group_anew from to step whole source group taken (cc (c.put_apart.ensures, put_count, length-part (from * step) from target fits)) written) c.loop-g.invariant
