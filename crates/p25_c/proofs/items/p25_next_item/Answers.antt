use Rattle.std.proofs.Common.{refl, sym, ◌∙◌}
use Rattle.p25_c.proofs.ItemsLaws.{items_asked-outside}
use Rattle.p25_c.proofs.items.p25_next_item.Goals as goal

pub returns-then-not-is_inside : goal.returns-then-not-is_inside
returns-then-not-is_inside c =
    rw (items_asked-outside c.args.ended c.args.begin c.args.from c.args.octets.now (sym c.is_inside.ensures ∙ c.if-not-is_inside.true))
    (record { answer = refl; item = refl; text = refl; short = λ one. absurd (cc one) })

pub returns-then-not-find_at : goal.returns-then-not-find_at
returns-then-not-find_at c =
    rw (c.find_at.ensures.none c.if-not-find_at.true) (record { answer = refl; item = refl; text = refl; short = λ one. absurd (cc one) })

pub returns : goal.returns
returns c =
    rw (c.find_at.ensures.first c.if-not-find_at.false).1
    (record { answer = refl; item = c.tell_item.ensures.item; text = c.tell_item.ensures.text; short = λ _. c.tell_item.ensures.short })
