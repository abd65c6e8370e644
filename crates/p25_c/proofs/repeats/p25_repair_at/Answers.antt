use Rattle.std.proofs.Common.{sym, drop, ◌-◌, ◌∙◌, true}
use Rattle.p25_bits.specs.Bits.{octet_bits}
use Rattle.p25_stream.specs.Repeats.{repaired}
use Rattle.p25_c.proofs.{ItemsLaws.{items_asked-outside}, PlacesSteps.{outside-writing}}
use Rattle.p25_c.proofs.repeats.p25_repair_at.Goals as goal

pub returns-then-not-is_inside : goal.returns-then-not-is_inside
returns-then-not-is_inside c =
    outside-writing repaired _ (drop (c.args.from - c.args.begin) (octet_bits c.args.octets.now)) c.args.into.now
    (items_asked-outside true c.args.begin c.args.from c.args.octets.now (sym c.is_inside.ensures ∙ c.if-not-is_inside.true))
