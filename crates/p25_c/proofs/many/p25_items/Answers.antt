use Rattle.std.proofs.{Common.{refl, rules, sym, w32, ◌∙◌}, lemmas.Int.{to_z-of_z}}
use Rattle.p25_c.proofs.ItemsLaws.{items_asked-inside, items_asked-outside}
use Rattle.p25_c.proofs.many.p25_items.Goals as goal

pub returns-then-not-is_inside : goal.returns-then-not-is_inside
returns-then-not-is_inside c =
    rw (items_asked-outside c.args.ended c.args.begin c.args.from c.args.octets.now (sym c.is_inside.ensures ∙ c.if-not-is_inside.true)) (record { answer = refl; items = refl })

pub returns : goal.returns
returns c =
    rw (items_asked-inside c.args.ended c.args.begin c.args.from c.args.octets.now _ (sym c.is_inside.ensures ∙ c.if-not-is_inside.false) refl)
    (record { answer = to_z-of_z w32 c.tell_items.result (search rules) ∙ c.tell_items.ensures.answer; items = c.tell_items.ensures.items })
