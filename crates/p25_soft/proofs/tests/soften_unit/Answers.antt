use Rattle.std.proofs.Common.{subst, sym, ap, ◌∙◌}
use Rattle.p25_bits.proofs.PartLaws.{part_whole}
use Rattle.p25_units.specs.{Items.{unit_item_of}, declared.item.Item.{Item}}
use Rattle.p25_soft.specs.Softened.{IsHeard}
use Rattle.p25_soft.proofs.HeardLaws.{IsHeard-unit}
use Rattle.p25_soft.proofs.tests.soften_unit.Goals as goal

pub soften-requires : goal.soften-requires
soften-requires c =
    let raw = c.args.raw.now in
    let count = c.in-Length.count in
    let whole = c.if-count-len.false ∙ c.len.ensures.value in
    subst (λ (item : Item). IsHeard item c.args.levels.now raw)
    (sym (c.unit_item-item.ensures.item ∙ ap (unit_item_of 0) (part_whole count raw (sym whole))))
    (IsHeard-unit c.args.levels.now raw 0 count c.requires (sym c.need.ensures ∙ c.in-Length.is) whole)
