use Rattle.std.proofs.Common.{true, refl, sym, ◌∙◌}
use Rattle.p25_c.proofs.ItemsLaws.{items_asked-outside}
use Rattle.p25_c.proofs.fields.p25_unit_fields.Goals as goal

pub returns-then-not-is_inside : goal.returns-then-not-is_inside
returns-then-not-is_inside c =
    rw (items_asked-outside true c.args.begin c.args.from c.args.octets.now (sym c.is_inside.ensures ∙ c.if-not-is_inside.true)) (record { answer = refl; fields = refl })
