use Rattle.std.proofs.{Common.{◌∙◌}, lemmas.Bool.{iff_false}}
use Rattle.p25_poly.proofs.EuclidSteps.{pair_reduced}
use Rattle.p25_poly.proofs.key.step.Goals as goal

pub returns-else-is_zero-2-clause-pair : goal.returns-else-is_zero-2-clause-pair
returns-else-is_zero-2-clause-pair c = λ count series half pair.
    pair_reduced count series c.args.front.now c.args.back.now c.reduce.new.self c.requires.lower half
    (λ none. iff_false c.is_zero.ensures c.if-is_zero.false (c.leading.ensures ∙ none)) pair c.reduce.ensures
