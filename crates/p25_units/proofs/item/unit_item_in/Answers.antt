use Rattle.std.proofs.Common.{sym, ap, arith, ◌∙◌, subst, drop}
use Rattle.p25_bits.specs.Bits.{part}
use Rattle.p25_units.specs.{Items.{IsSoundItem, item_from}, declared.item.Item.{Item}, declared.item.Item.TheVariants.{Broken, Whole}}
use Rattle.p25_units.proofs.{ItemSteps.{broken-is}, ItemsLaws.{IsSoundItem-unit_item_of}, UnitPlaceLaws.{IsCountAt-kind, IsUnitAt-from, item-is, kind-is, some_nid}}
use Rattle.p25_units.proofs.item.unit_item_in.Goals as goal

pub identify-requires-clause-there : goal.identify-requires-clause-there
identify-requires-clause-there c =
    let is = IsUnitAt-from c.args.bits.now c.args.at c.args.count c.requires.there c.requires.needed in
    omega (arith, is.there, is.enough)

pub unreachable-requires : goal.unreachable-requires
unreachable-requires c = some_nid c.args.bits.now c.args.at c.args.count (IsUnitAt-from c.args.bits.now c.args.at c.args.count c.requires.there c.requires.needed) c.in-None.ensures.value

pub read_frame-requires-clause-kind : goal.read_frame-requires-clause-kind
read_frame-requires-clause-kind c =
    kind-is c.args.bits.now c.args.at c.args.count (IsUnitAt-from c.args.bits.now c.args.at c.args.count c.requires.there c.requires.needed) c.in-Some.read.nid c.in-Some.ensures.value

pub overflow_cast-count : goal.overflow_cast-count
overflow_cast-count c =
    let is = IsUnitAt-from c.args.bits.now c.args.at c.args.count c.requires.there c.requires.needed in
    let kind = kind-is c.args.bits.now c.args.at c.args.count is c.in-Some.read.nid c.in-Some.ensures.value in
    omega (arith, (IsCountAt-kind c.in-Some.read.nid.duid c.args.bits.now c.args.at c.args.count c.requires.there kind).most)

pub returns-in-Read-clause-item : goal.returns-in-Read-clause-item
returns-in-Read-clause-item c =
    let is = IsUnitAt-from c.args.bits.now c.args.at c.args.count c.requires.there c.requires.needed in
    let nid = c.in-Some.read.nid in
    item-is c.args.bits.now c.args.at c.args.count c.args.place is nid c.in-Some.ensures.value (Whole c.args.place c.read_frame.new.frame c.in-Read.wrong)
    (ap (Whole c.args.place c.read_frame.new.frame) c.in-Read.ensures.wrong ∙ ap (item_from c.args.place (nid.nac, nid.duid) (part c.args.at c.args.count c.args.bits.now)) c.in-Read.ensures.frame)

pub returns-in-Read-clause-sound : goal.returns-in-Read-clause-sound
returns-in-Read-clause-sound c =
    subst (λ (item : Item). IsSoundItem item) (sym (returns-in-Read-clause-item c)) (IsSoundItem-unit_item_of c.args.place (drop c.args.at c.args.bits.now) c.args.count c.requires.needed)

pub returns-in-Failing-clause-item : goal.returns-in-Failing-clause-item
returns-in-Failing-clause-item c =
    let is = IsUnitAt-from c.args.bits.now c.args.at c.args.count c.requires.there c.requires.needed in
    let nid = c.in-Some.read.nid in
    let fields = c.in-Failing.fields in
    let kind = kind-is c.args.bits.now c.args.at c.args.count is nid c.in-Some.ensures.value in
    c.make_broken.ensures ∙ item-is c.args.bits.now c.args.at c.args.count c.args.place is nid c.in-Some.ensures.value (Broken c.args.place c.args.count nid.nac nid.duid fields)
    (broken-is c.args.place nid.nac nid.duid c.args.bits.now c.args.at c.args.count fields c.requires.there kind c.in-Failing.ensures.frame)
