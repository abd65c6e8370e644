use Rattle.std.proofs.Common.{◌≡◌, ap, sym, ◌∙◌, arith}
use Rattle.p25_units.specs.{declared.needs.Need.TheVariants.{More, Length, NoLength}, declared.item.Item.TheVariants.{Gap, Cut}}
use Rattle.p25_stream.specs.Items.{gap_of}
use Rattle.p25_stream.proofs.{JudgementsLaws.{was-searching, was-waiting, was-gap, was-ready, was-no_unit, searched-none, searched-all}, ItemsLaws.{first_item-gap, first_item-synced}}
use Rattle.p25_stream.proofs.judging.set_item.Goals as goal

pub overflow_cast-item-in-Gap : goal.overflow_cast-item-in-Gap
overflow_cast-item-in-Gap c =
    let is = was-gap c.args.judged c.args.held.now c.in-Gap.count c.requires c.in-Gap.is in
    omega (arith, is.is)

pub unit_item_in-requires-clause-needed : goal.unit_item_in-requires-clause-needed
unit_item_in-requires-clause-needed c = (was-ready c.args.judged c.args.held.now c.in-Ready.count c.in-Ready.begun c.requires c.in-Ready.is).needs

pub unit_item_in-requires-clause-begun : goal.unit_item_in-requires-clause-begun
unit_item_in-requires-clause-begun c = (was-ready c.args.judged c.args.held.now c.in-Ready.count c.in-Ready.begun c.requires c.in-Ready.is).read

pub returns-in-Searching-clause-item : goal.returns-in-Searching-clause-item
returns-in-Searching-clause-item c =
    let bits = c.args.held.now in
    let is = was-searching c.args.judged bits c.in-Searching.field-0 c.requires c.in-Searching.is in
    let count : c.min.result ≡ gap_of bits = omega (arith, c.min.ensures, c.len.ensures.value, searched-all bits c.in-Searching.field-0 is) in
    ap (Gap c.args.place) count ∙ sym (first_item-gap c.args.place bits (searched-none bits c.in-Searching.field-0 is))

pub returns-in-Waiting-clause-item : goal.returns-in-Waiting-clause-item
returns-in-Waiting-clause-item c =
    let bits = c.args.held.now in
    let is = was-waiting c.args.judged bits c.in-Waiting.field-0 c.in-Waiting.field-1 c.requires c.in-Waiting.is in
    ap (Cut c.args.place) c.len-in-Waiting.ensures.value ∙ sym (first_item-synced c.args.place bits (More c.in-Waiting.field-0) is.synced is.needs)

pub returns-in-Gap-clause-item : goal.returns-in-Gap-clause-item
returns-in-Gap-clause-item c =
    let bits = c.args.held.now in
    let is = was-gap c.args.judged bits c.in-Gap.count c.requires c.in-Gap.is in
    ap (Gap c.args.place) is.is ∙ sym (first_item-gap c.args.place bits is.unsynced)

pub returns-in-Ready-clause-item : goal.returns-in-Ready-clause-item
returns-in-Ready-clause-item c =
    let bits = c.args.held.now in
    let is = was-ready c.args.judged bits c.in-Ready.count c.in-Ready.begun c.requires c.in-Ready.is in
    c.unit_item_in.ensures.item ∙ sym (first_item-synced c.args.place bits (Length c.in-Ready.count) is.synced is.needs)

pub returns-in-NoUnit-clause-item : goal.returns-in-NoUnit-clause-item
returns-in-NoUnit-clause-item c =
    let bits = c.args.held.now in
    let is = was-no_unit c.args.judged bits c.in-NoUnit.field c.requires c.in-NoUnit.is in
    sym (first_item-synced c.args.place bits (NoLength c.in-NoUnit.field) is.synced is.needs)
