use Rattle.std.proofs.Common.{◌≡◌, ℕ, ◌+◌, ◌-◌, ◌/◌, ◌%◌, ◌<◌, ◌||◌, Bool, List, ◌++◌, true, length, take, drop, refl, ap, ap₂, sym, subst, ◌∙◌, arith}
use Rattle.p25_bits.specs.Bits.{bits_of, octet_bits}
use Rattle.p25_units.specs.declared.item.Item.{Item}
use Rattle.p25_stream.specs.{Judgements.{is_settled}, Finding.{IsFirst}, Items.{first_item, items_by}}
use Rattle.p25_stream.proofs.FindingLaws.{bits-at, first-found, held-some, none-at_end, none-found}
use Rattle.p25_stream.proofs.finding.find_item_in.Goals.{else-not-ended-via-then-not-ended+else-not-is_settled, else-not-ended-via-else-not-ended}
use Rattle.p25_stream.proofs.finding.find_item_in.Goals as goal

pub returns-then-first-octets-clause-none : goal.returns-then-first-octets-clause-none
returns-then-first-octets-clause-none c = λ _. (none-at_end c.args.ended c.args.place c.args.at c.args.octets.now (omega (arith, c.if-first-octets.true)), refl)

pub returns-then-not-is_settled-clause-none : goal.returns-then-not-is_settled-clause-none
returns-then-not-is_settled-clause-none c = λ _.
    let octets = c.args.octets.now in
    let before = c.drop_front.new.self in
    let rest = octet_bits (take (length octets - (c.args.at / 8 + 1)) (drop (c.args.at / 8 + 1) octets)) in
    let begins = c.drop_front.ensures.list ∙ ap (drop (c.args.at % 8)) (c.put_field.ensures.list ∙ ap₂ (λ (xs : List Bool) (n : ℕ). xs ++ bits_of 8 n) c.clear.ensures c.from.ensures) in
    let whole : drop c.args.at (octet_bits octets) ≡ before ++ rest = bits-at octets c.args.at before (omega (arith, c.if-first-octets.false)) begins in (
      ap (items_by c.args.ended c.args.place) whole
          ∙ none-found c.args.ended c.args.place before rest c.fill-judged.new.held c.fill-judged.result c.fill-judged.ensures c.if-not-ended.true
          (sym c.is_settled.ensures ∙ c.if-not-is_settled.true),
      refl,
    )

pub returns-clause-first : goal.returns-clause-first
returns-clause-first c = λ _.
    let octets = c.args.octets.now in
    let before = c.drop_front.new.self in
    let rest = octet_bits (take (length octets - (c.args.at / 8 + 1)) (drop (c.args.at / 8 + 1) octets)) in
    let held = c.fill-judged.new.held in
    let begins = c.drop_front.ensures.list ∙ ap (drop (c.args.at % 8)) (c.put_field.ensures.list ∙ ap₂ (λ (xs : List Bool) (n : ℕ). xs ++ bits_of 8 n) c.clear.ensures c.from.ensures) in
    let whole : drop c.args.at (octet_bits octets) ≡ before ++ rest = bits-at octets c.args.at before (omega (arith, c.if-first-octets.false)) begins in
    let some : 0 < length before = omega (arith, c.drop_front.ensures.len, c.put_field.ensures.len) in
    let goes : (c.args.ended || is_settled c.fill-judged.result) ≡ true
    = elim c.else-not-ended.branch [
      | else-not-ended-via-then-not-ended+else-not-is_settled w ↦ ap₂ ◌||◌ w.if-not-ended.true (sym w.is_settled.ensures ∙ w.if-not-is_settled.false)
      | else-not-ended-via-else-not-ended w ↦ ap (λ (b : Bool). b || is_settled c.fill-judged.result) w.if-not-ended.false
    ] in
    subst (λ (i : Item). IsFirst c.args.ended c.args.place (drop c.args.at (octet_bits octets)) i) (sym c.set_item.ensures.item)
    (subst (λ (zs : List Bool). IsFirst c.args.ended c.args.place zs (first_item c.args.place held)) (sym whole)
    (first-found c.args.ended c.args.place before rest held c.fill-judged.result c.fill-judged.ensures
    (held-some before rest held c.fill-judged.result c.fill-judged.ensures some) goes))
