use Rattle.std.proofs.{Common.{ap, ap₂, ◌∙◌, arith}, lemmas.List.{get_or_default}}
use Rattle.p25_gf64.specs.{Gf64.{gf64}}
use Rattle.p25_algebra.specs.Series.{coefficient}
use Rattle.p25_poly.proofs.CoefficientLaws.{coefficient_blank}
use Rattle.p25_reed_solomon.proofs.ErrorsLaws.{placed_more, placed_none}
use Rattle.p25_reed_solomon.proofs.errors.place.Goals as goal

pub loop-c-init : goal.loop-c-init
loop-c-init c = λ j below.
    ap (λ s. coefficient gf64 s j) (c.fill.ensures.after (λ y e. e))
    ∙ coefficient_blank gf64 c.default.result _ j c.default.ensures ∙ placed_none c.args.places.now _ j

pub loop-c-preserved : goal.loop-c-preserved
loop-c-preserved c =
    let loop = c.loop-c in
    let inside = c.requires.inside loop.c (omega arith) in
    placed_more c.args.places.now _ loop.out loop.c c.add.result (omega (arith, inside))
    (c.add.ensures.sum ∙ ap₂ gf64.add (c.index-out-j.is ∙ get_or_default loop.out _ _ gf64.zero (omega (arith, inside)))
    (c.index-values-c.is ∙ get_or_default c.args.values.now _ _ gf64.zero (omega arith)))
    loop.invariant
