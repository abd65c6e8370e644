use Rattle.std.proofs.{Common.{◌∙◌, ap, ap₂, arith}, lemmas.List.{get_or_default}}
use Rattle.p25_gf64.specs.Gf64.{gf64}
use Rattle.p25_poly.proofs.{CoefficientLaws.{multiple_everywhere}, RowLaws.{cleared_row}}
use Rattle.p25_poly.proofs.row.Row.cleared.Goals as goal

pub returns : goal.returns
returns c =
    let self = c.args.self.now in
    let front = c.args.front.now in
    cleared_row c.args.column front self _ c.mul-factor.result c.requires.pivot
    (c.mul-factor.ensures.product
    ∙ ap₂ gf64.mul (get_or_default self.cells c.args.column _ gf64.zero (omega arith))
    (c.inv.ensures.inverse ∙ ap gf64.inverse (get_or_default front.cells c.args.column _ gf64.zero (omega arith))))
    (multiple_everywhere gf64 self.cells front.cells c.add_multiple.new.into c.mul-factor.result (omega arith) (omega arith) c.add_multiple.ensures)
    (c.add.ensures.sum ∙ ap (gf64.add self.right) c.mul.ensures.product)
