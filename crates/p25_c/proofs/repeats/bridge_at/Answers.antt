use Rattle.std.proofs.Common.{[], Bool, List, sym, drop, ◌-◌, ◌∙◌, true}
use Rattle.p25_bits.specs.Bits.{octet_bits}
use Rattle.p25_stream.specs.Repeats.{bridged}
use Rattle.p25_units.specs.declared.item.Item.{Item}
use Rattle.p25_c.proofs.{ItemsLaws.{items_asked-outside}, PlacesSteps.{outside-writing}}
use Rattle.p25_c.proofs.repeats.bridge_at.Goals as goal

pub returns-then-not-is_inside : goal.returns-then-not-is_inside
returns-then-not-is_inside c =
    outside-writing (λ (item : Item) (raw : List Bool). bridged c.args.nac c.args.status item []) _ (drop (c.args.from - c.args.begin) (octet_bits c.args.octets.now)) c.args.into.now
    (items_asked-outside true c.args.begin c.args.from c.args.octets.now (sym c.is_inside.ensures ∙ c.if-not-is_inside.true))
