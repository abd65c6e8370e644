use Rattle.std.proofs.{Common.{◌+◌, ◌<◌, length, get_or, sum_by, ap, ap₂, sym, ◌∙◌, arith}, lemmas.List.{take_all}, lemmas.List.Sums.{sum_by_more, sum_by_more_le}}
use Rattle.p25_voice_units.proofs.FixesLaws.{differ_at, differ_at-ones, differ_at-all, differ_at-le, differ_at-small}
use Rattle.p25_voice_units.proofs.fixes.differing.Goals as goal

pub loop-at-preserved : goal.loop-at-preserved
loop-at-preserved c =
    let places = c.args.places.now in
    let i = c.loop-at.at-index in
    let inside : i < length places = omega arith in
    ap₂ ◌+◌ c.loop-at.invariant (differ_at-ones c.args.width (get_or places i 0) c.args.received.now c.args.image.now c.field.result c.field-in-loop-at.result
    (c.requires.received i 0 inside) (c.requires.image i 0 inside)
    c.field.ensures.value c.field-in-loop-at.ensures.value)
    ∙ sym (sum_by_more (differ_at c.args.width c.args.received.now c.args.image.now) places i 0 inside)

pub overflow_add-wrong : goal.overflow_add-wrong
overflow_add-wrong c =
    let places = c.args.places.now in
    let i = c.loop-at.at-index in
    let inside : i < length places = omega arith in
    omega (
      arith,
      loop-at-preserved c,
      sum_by_more (differ_at c.args.width c.args.received.now c.args.image.now) places i 0 inside,
      sum_by_more_le (differ_at c.args.width c.args.received.now c.args.image.now) places i 0 inside,
      differ_at-small c.args.width c.args.received.now c.args.image.now places c.requires.width c.requires.few c.requires.received,
    )

pub returns-clause-value : goal.returns-clause-value
returns-clause-value c =
    c.loop-at.invariant
    ∙ ap (sum_by (differ_at c.args.width c.args.received.now c.args.image.now)) (take_all c.loop-at.at-index c.args.places.now (omega arith))
    ∙ differ_at-all c.args.width c.args.received.now c.args.image.now c.args.places.now c.requires.received c.requires.image

pub returns-clause-most : goal.returns-clause-most
returns-clause-most c =
    let all = ap (sum_by (differ_at c.args.width c.args.received.now c.args.image.now)) (take_all c.loop-at.at-index c.args.places.now (omega arith)) in
    omega (arith, c.loop-at.invariant, all, differ_at-le c.args.width c.args.received.now c.args.image.now c.args.places.now c.requires.received)
