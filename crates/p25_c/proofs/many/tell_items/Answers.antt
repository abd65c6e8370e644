use Rattle.std.proofs.{Common.{◌≡◌, ◌<◌, ◌+◌, ◌-◌, [], ◌∷◌, pos, rules, to_z, of_z, w32, List, length, take, drop, map, min, slice_set, ap, sym, ◌∙◌, arith}, lemmas.Int.{to_z-of_z}}
use Rattle.std.proofs.lemmas.List.{drop-drop, length-take-le}
use Rattle.p25_bits.specs.Bits.{octet_bits}
use Rattle.p25_stream.specs.Items.{items_by}
use Rattle.p25_units.specs.{Items.{covered}, declared.item.Item.{Item}}
use Rattle.p25_c.specs.{Many.{numbers_of, put_first}, declared.items.ItemParts.{ItemParts}}
use Rattle.p25_c.proofs.ManySteps.{left-next, left-none, left-some, told-more}
use Rattle.p25_c.proofs.many.tell_items.Goals as goal
use mir.Val.{SFits}

pub returns-then-not-find_item_in-clause-answer : goal.returns-then-not-find_item_in-clause-answer
returns-then-not-find_item_in-clause-answer c =
    let items = items_by c.args.ended c.args.from (drop (c.args.from - c.args.begin) (octet_bits c.args.octets.now)) in
    let i = c.loop-i.i in
    let room = min (length c.args.items.now) 2147483647 in
    let fits : SFits w32 c.counted.result = search rules in
    let left : drop i items ≡ [] = c.loop-i.invariant.left ∙ (c.find_item_in.ensures.none c.if-not-find_item_in.true).0 in
    let same = left-none items i room left c.loop-i.invariant.some (omega (arith, c.loop-i-test.true)) in
    to_z-of_z w32 c.counted.result fits
    ∙ c.counted.ensures
    ∙ sym (ap (λ (told : List Item). pos (length told)) same ∙ ap pos (length-take-le i items c.loop-i.invariant.some))

pub returns-then-not-find_item_in-clause-items : goal.returns-then-not-find_item_in-clause-items
returns-then-not-find_item_in-clause-items c =
    let items = items_by c.args.ended c.args.from (drop (c.args.from - c.args.begin) (octet_bits c.args.octets.now)) in
    let i = c.loop-i.i in
    let room = min (length c.args.items.now) 2147483647 in
    let left : drop i items ≡ [] = c.loop-i.invariant.left ∙ (c.find_item_in.ensures.none c.if-not-find_item_in.true).0 in
    c.loop-i.invariant.told
    ∙ ap (λ (told : List Item). put_first (map numbers_of told) c.args.items.now) (sym (left-none items i room left c.loop-i.invariant.some (omega (arith, c.loop-i-test.true))))

pub loop-i-preserved : goal.loop-i-preserved
loop-i-preserved c =
    let bits = octet_bits c.args.octets.now in
    let items = items_by c.args.ended c.args.from (drop (c.args.from - c.args.begin) bits) in
    let i = c.loop-i.i in
    let place = c.loop-i.place in
    let item = c.find_item_in.new.item in
    let rest = items_by c.args.ended (place + covered item) (drop (covered item) (drop (place - c.args.begin) bits)) in
    let first = c.find_item_in.ensures.first c.if-not-find_item_in.false in
    let count = c.covered-place.ensures.value in
    let after = c.loop-i.invariant.after in
    let left : drop i items ≡ item ∷ rest = c.loop-i.invariant.left ∙ first.items in
    let behind : place - c.args.begin + covered item ≡ place + covered item - c.args.begin = omega (arith, after) in
    let some = left-some items i item rest left in
    record {
      after = omega (arith, after);
      most = omega (arith, c.covered-place.ensures.short, c.loop-i.invariant.most);
      some = omega (arith, some);
      left
          = left-next items i item rest left
          ∙ ap (items_by c.args.ended (place + covered item)) (drop-drop (covered item) (place - c.args.begin) bits ∙ ap (λ n. drop n bits) behind)
          ∙ ap (λ n. items_by c.args.ended (place + n) (drop (place + n - c.args.begin) bits)) (sym count);
      told
          = ap (λ (it : ItemParts). slice_set c.loop-i.items i it) c.item_parts.ensures
          ∙ told-more numbers_of items c.args.items.now c.loop-i.items i item rest left (omega (arith, c.loop-i-test.true)) c.loop-i.invariant.told;
    }
