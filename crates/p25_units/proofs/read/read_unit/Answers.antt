use Rattle.std.proofs.Common.{Some, Err, drop, sym, ◌∙◌}
use Rattle.p25_bits.specs.Bits.{part}
use Rattle.p25_units.specs.Readings.{reading_from}
use Rattle.p25_units.proofs.{FailuresLaws.{some_fields}, ItemSteps.{read_broken, read_other, read_whole}, UnitPlaceLaws.{IsUnitAt-from, item_of_unit, reading_of_unit}}
use Rattle.p25_units.proofs.read.read_unit.Goals as goal

pub returns-in-Whole-clause-reading : goal.returns-in-Whole-clause-reading
returns-in-Whole-clause-reading c =
    let bits = c.args.bits.now in
    let is = IsUnitAt-from bits c.args.at c.args.count c.requires.there c.requires.needed in
    let sent = part c.args.at c.args.count bits in
    read_whole 0 is.nid sent (reading_from (Some is.nid) sent) _ c.in-Whole.frame _ (c.in-Whole.ensures.item ∙ item_of_unit bits c.args.at c.args.count 0 is)
    ∙ sym (reading_of_unit bits c.args.at c.args.count is)

pub returns-in-Broken-clause-reading : goal.returns-in-Broken-clause-reading
returns-in-Broken-clause-reading c =
    let bits = c.args.bits.now in
    let is = IsUnitAt-from bits c.args.at c.args.count c.requires.there c.requires.needed in
    let sent = part c.args.at c.args.count bits in
    read_broken 0 is.nid sent (reading_from (Some is.nid) sent) _ _ _ _ c.in-Broken.fields
    (c.in-Broken.ensures.item ∙ item_of_unit bits c.args.at c.args.count 0 is) ∙ sym (reading_of_unit bits c.args.at c.args.count is)

pub returns-in-Broken-clause-some : goal.returns-in-Broken-clause-some
returns-in-Broken-clause-some c = some_fields (drop c.args.at c.args.bits.now) c.args.count (Err c.in-Broken.fields) c.requires.needed (returns-in-Broken-clause-reading c)

pub unreachable-requires : goal.unreachable-requires
unreachable-requires c =
    let bits = c.args.bits.now in
    let is = IsUnitAt-from bits c.args.at c.args.count c.requires.there c.requires.needed in
    let sent = part c.args.at c.args.count bits in
    read_other 0 is.nid sent (reading_from (Some is.nid) sent) c.unit_item.result
    (c.unit_item.ensures.item ∙ item_of_unit bits c.args.at c.args.count 0 is) c.in_default.not-Whole c.in_default.not-Broken
