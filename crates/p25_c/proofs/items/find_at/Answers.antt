use Rattle.std.proofs.Common.{◌+◌, ◌-◌, [], ◌∷◌, drop}
use Rattle.p25_bits.specs.Bits.{octet_bits}
use Rattle.p25_stream.specs.Items.{items_by}
use Rattle.p25_units.specs.Items.{covered}
use Rattle.p25_c.proofs.ItemsLaws.{items_asked-inside}
use Rattle.p25_c.proofs.items.find_at.Goals as goal

pub returns-clause-first : goal.returns-clause-first
returns-clause-first c found =
    let item = c.find_item.new.item in
    let later = items_by c.args.ended (c.args.from + covered item) (drop (covered item) (drop (c.args.from - c.args.begin) (octet_bits c.args.octets.now))) in
    let first = c.find_item.ensures.first found in
    (later, items_asked-inside c.args.ended c.args.begin c.args.from c.args.octets.now (item ∷ later) c.requires first.items)

pub returns-clause-none : goal.returns-clause-none
returns-clause-none c none =
    items_asked-inside c.args.ended c.args.begin c.args.from c.args.octets.now [] c.requires (c.find_item.ensures.none none).0
