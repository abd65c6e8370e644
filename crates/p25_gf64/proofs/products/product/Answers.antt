use Rattle.std.proofs.Common.{◌∙◌, arith}
use Rattle.p25_gf64.specs.ProductLaws.{product-lt}
use Rattle.p25_gf64.proofs.ProductSteps.{product_by-step, product_by-last, product_by-six}
use Rattle.p25_gf64.proofs.products.product.Goals as goal

pub returns-clause-product : goal.returns-clause-product
returns-clause-product c =
    product_by-step _ _ _ _ _ _ c.times_x-a1.ensures.product c.chosen.ensures
    (product_by-step _ _ _ _ _ _ c.times_x-a2.ensures.product c.chosen-2.ensures
    (product_by-step _ _ _ _ _ _ c.times_x-a3.ensures.product c.chosen-3.ensures
    (product_by-step _ _ _ _ _ _ c.times_x-a4.ensures.product c.chosen-4.ensures
    (product_by-step _ _ _ _ _ _ c.times_x-a5.ensures.product c.chosen-5.ensures
    (product_by-last _ _ _ c.chosen-6.ensures)))))
    ∙ product_by-six c.args.a c.args.b

pub returns-clause-below : goal.returns-clause-below
returns-clause-below c = omega (arith, returns-clause-product c, product-lt c.args.a c.args.b c.requires.a)
