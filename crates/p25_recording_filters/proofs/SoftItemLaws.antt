-- The bits of an item of a soft recording, softened by the levels of its position. The output for an item does not use levels before the group of its
-- position, so these can be dropped.
use Rattle.std.proofs.Common.{◌≡◌, ℕ, ◌+◌, ◌-◌, ◌*◌, ◌/◌, ◌%◌, ◌<◌, ◌≤◌, ◌&&◌, inl, inr, Bool, true, false, cond, List, [], ◌∷◌, ◌++◌, length, take, drop, refl, ap, ap₂, sym, subst, ◌∙◌, arith, append_assoc, eq-eqb, ℤ}
use Rattle.std.proofs.lemmas.Bool.{cases_Bool, eqb-true, and_parts, both_ways}
use Rattle.std.specs.Prelude.{nat_eq}
use Rattle.p25_bits.specs.Bits.{part}
use Rattle.p25_bits.proofs.PartLaws.{part-drop, part_left}
use Rattle.p25_units.specs.{declared.item.Item.{Item}, declared.item.Item.TheVariants.{Broken}, Items.{covered, place_of, unit_item_of}, Needs.{need_of}, declared.needs.Need.TheVariants.{Length}}
use Rattle.p25_units.specs.Units.{whole_octets}
use Rattle.p25_status.specs.{Sync.{has_sync}, declared.fields.Field.{Field}}
use Rattle.p25_units.proofs.{NeedsLaws.{need_of-there}, ItemsLaws.{covered-unit_item_of}}
use Rattle.p25_stream.specs.{Items.{first_item, items_by}, ItemLaws.{GaveItems}, Scan.{Scan, Gave}}
use Rattle.p25_stream.proofs.{ItemsLaws.{first_item-cases, items_by-first, place_of-first_item}, WrittenLaws.{written-cons, written-nil}}
use Rattle.p25_soft.specs.{Levels.{hard_bits}, Softened.{IsHeard, softened}}
use Rattle.p25_soft.proofs.{HardBitsLaws.{hard_bits-part}, HeardLaws.{IsHeard-front, softened-other, softened-unpacked}}
use Rattle.p25_recording_filters.specs.{Commands.{unfilled}, ItemOutputs.{changed_bits}, SoftLevels.{grouped, item_softened, scanned}}
use Rattle.p25_recording_filters.specs.Softs.{IsHeardAmong, IsHolding, first_level, is_even_packet, item_levels, soft_written}
use Rattle.p25_recording_filters.proofs.HoldingLaws.{bits-gone, first-given, gone-among, holding-after, length-held, place-given, raw-given, scanned-gone}
use Rattle.p25_recording_filters.proofs.{OctetsLaws.{whole_octets-append}, SoftLevelsLaws.{grouped-ungrouped, length-grouped, scanned-split, ungrouped}}

-- the levels of an item from a group on
part_from_group : (place covers : ℕ) (levels : List ℤ) → part (place / 2 - first_level place) covers levels ≡ part (place % 8 / 2) covers levels
part_from_group place covers levels = let at : place / 2 - first_level place ≡ place % 8 / 2 = omega arith in rw at

-- a broken packet at an even position is softened
pub softened-even : (item : Item) (levels : List ℤ) (raw : List Bool)
    → is_even_packet item ≡ true → item_softened (first_level (place_of item)) levels item raw ≡ softened item (item_levels item levels) raw
unfolding item_softened
softened-even (Broken place count nac duid fields) levels raw yes' =
    let even : nat_eq (place % 2) 0 ≡ true = (and_parts (nat_eq duid 0xC) (nat_eq (place % 2) 0) yes').1 in
    rw (even, part_from_group)
softened-even item levels raw yes' = absurd (cc)

same_both : {X : Type 0} (b : Bool) (x : X) → cond b x x ≡ x
same_both true x = refl
same_both false x = refl

-- and no other item
not_packet : (item : Item) (first : ℕ) (levels : List ℤ) (raw : List Bool) → ((ls : List ℤ) → softened item ls raw ≡ raw) → item_softened first levels item raw ≡ raw
unfolding item_softened
not_packet item first levels raw same = rw (same (part (place_of item / 2 - first) (covered item / 2) levels), same_both)

pub softened-uneven : (item : Item) (first : ℕ) (levels : List ℤ) (raw : List Bool) → is_even_packet item ≡ false → item_softened first levels item raw ≡ raw
unfolding item_softened
softened-uneven (Broken place count nac duid fields) first levels raw no' =
    let item = Broken place count nac duid fields in
    elim (cases_Bool (nat_eq duid 0xC)) [
      | inl packet ↦
          let odd : nat_eq (place % 2) 0 ≡ false = second (nat_eq duid 0xC) (nat_eq (place % 2) 0) packet no' in
          rw odd
      | inr other ↦ unfold item_softened in
          not_packet item first levels raw (λ ls. softened-unpacked item ls raw place count nac duid fields refl (λ is. both_ways _ other (eq-eqb duid 0xC is)))
    ]
  where
    second : (a b : Bool) → a ≡ true → (a && b) ≡ false → b ≡ false
    second true b h e = e
    second false b h e = absurd (cc)
softened-uneven item first levels raw no' = not_packet item first levels raw (λ ls. softened-other item ls raw (λ p c n d f is. cc))

-- equal levels soften an item to equal bits, wherever they are counted from
softened-same : (item : Item) (first other : ℕ) (levels others : List ℤ) (raw : List Bool)
    → part (place_of item / 2 - first) (covered item / 2) levels ≡ part (place_of item / 2 - other) (covered item / 2) others
    → item_softened first levels item raw ≡ item_softened other others item raw
unfolding item_softened
softened-same item first other levels others raw same = rw same

-- levels before the group of a position do not matter from there on
softened-later : (item : Item) (first gone : ℕ) (levels : List ℤ) (raw : List Bool) → first + gone ≤ place_of item / 2
    → item_softened first levels item raw ≡ item_softened (first + gone) (drop gone levels) item raw
softened-later item first gone levels raw later =
    let at : gone + (place_of item / 2 - (first + gone)) ≡ place_of item / 2 - first = omega arith in
    softened-same item first (first + gone) levels (drop gone levels) raw
    (rw (part-drop (place_of item / 2 - (first + gone)) (covered item / 2) gone levels, at))

-- changes that are alike from a position on have the same output for the items there
changed-alike : (f g : Item → List Bool → List Bool) (from : ℕ) → ((item : Item) (raw : List Bool) → from ≤ place_of item → f item raw ≡ g item raw)
    → (items : List Item) (ended : Bool) (place : ℕ) (bits others : List Bool) → from ≤ place → items_by ended place bits ≡ items → changed_bits f items others ≡ changed_bits g items others
changed-alike f g from alike [] ended place bits others late are = rw (written-nil, written-nil)
changed-alike f g from alike (item ∷ items) ended place bits others late are =
    let parts = items_by-first ended place bits item items are in
    let there : from ≤ place_of item = omega (arith, ap place_of parts.1, place_of-first_item place bits) in
    let behind : from ≤ place + covered item = omega arith in
    rw (
      written-cons f,
      written-cons g,
      alike item (take (covered item) others) there,
      changed-alike f g from alike items ended (place + covered item) (drop (covered item) bits) (drop (covered item) others) behind (sym parts.2),
    )

-- an item is given
module _ (scan next : Scan) (levels : List ℤ) (item : Item) (raw : List Bool) (holding : IsHolding scan levels) (gave : Gave scan item raw next) where
  -- the levels that go with it
  abbrev pub gone : ℕ
  gone = first_level next.place - first_level scan.place

  gone-is : (first_level scan.place + gone ≡ first_level next.place) × (2 * gone + next.place % 8 ≡ scan.place % 8 + covered item) × (gone % 4 ≡ 0)
  gone-is =
      let place = gave.place in
      let later : first_level scan.place ≤ first_level next.place = omega (arith, place) in
      (omega arith, omega (arith, place), omega (arith, place))

  pub gone-there : gone ≤ length levels
  gone-there = gone-among (scan.place % 8) (next.place % 8) gone scan next levels item raw holding gave gone-is.1 gone-is.2

  -- the scanner holds the bits of the levels that are left
  pub holding-next : IsHolding next (drop gone levels)
  holding-next = holding-after (scan.place % 8) (next.place % 8) gone scan next levels item raw holding gave gone-is.1 gone-is.2

  -- the output for it, and the output after it
  module _ (gave_items : GaveItems) (ended : Bool) (new : List ℤ) (kept : List Bool) (all_there : scan.finished ≡ true → (ended ≡ true) × (new ≡ [])) where
    -- its levels are among those of whole groups
    softened-given : item_softened (first_level scan.place) (scanned ended (levels ++ new)) item raw ≡ item_softened (first_level scan.place) levels item raw
    softened-given =
        let at = place_of item / 2 - first_level scan.place in
        let count = covered item / 2 in
        let inside : at + count ≤ length (grouped levels) = omega (arith, (place-given scan next item raw gave).0, gave.there, length-held (scan.place % 8) scan levels holding) in
        let one : part at count (scanned ended (levels ++ new)) ≡ part at count (grouped levels)
        = rw (scanned-split ended levels new, part_left at count (grouped levels) (scanned ended (ungrouped levels ++ new)) inside) in
        let two = rw grouped-ungrouped at (part_left at count (grouped levels) (ungrouped levels) inside) in
        softened-same item (first_level scan.place) (first_level scan.place) (scanned ended (levels ++ new)) levels raw (one ∙ sym two)

    behind-given : changed_bits (item_softened (first_level scan.place) (scanned ended (levels ++ new)))
        (items_by ended next.place (drop (covered item) (drop (scan.place % 8) (hard_bits (scanned ended (levels ++ new))))))
        (drop (covered item) (drop (scan.place % 8) (hard_bits (scanned ended (levels ++ new)))))
        ≡ changed_bits (item_softened (first_level next.place) (scanned ended (drop gone levels ++ new)))
        (items_by ended next.place (drop (next.place % 8) (hard_bits (scanned ended (drop gone levels ++ new)))))
        (drop (next.place % 8) (hard_bits (scanned ended (drop gone levels ++ new))))
    behind-given =
        let ahead = scan.place % 8 in
        let after = next.place % 8 in
        let all = scanned ended (levels ++ new) in
        let rest = drop (covered item) (drop (scan.place % 8) (hard_bits all)) in
        changed-alike (item_softened (first_level scan.place) all) (item_softened (first_level next.place) (scanned ended (drop gone levels ++ new))) next.place
        (λ later bits late.
        let there : first_level scan.place + gone ≤ place_of later / 2 = omega (arith, gone-is.0, late) in
        rw (softened-later later (first_level scan.place) gone all bits there, gone-is.0, scanned-gone ahead after gone scan next levels item raw holding gave gone-is.1 gone-is.2 ended new))
        (items_by ended next.place rest)
        ended next.place rest rest (omega arith) refl
        ∙ rw (bits-gone ahead after gone scan next levels item raw holding gave gone-is.1 gone-is.2 ended new)

    pub written-given : soft_written ended scan.place (levels ++ new) kept
        ≡ whole_octets (kept ++ item_softened (first_level scan.place) levels item raw)
        ++ soft_written ended next.place (drop gone levels ++ new) (unfilled (kept ++ item_softened (first_level scan.place) levels item raw))
    written-given =
        let ahead = scan.place % 8 in
        let after = next.place % 8 in
        let first = first-given ahead after gone scan next levels item raw holding gave gone-is.1 gone-is.2 gave_items ended new all_there in
        let own_bits = raw-given ahead after gone scan next levels item raw holding gave gone-is.1 gone-is.2 gave_items ended new all_there in
        let all = scanned ended (levels ++ new) in
        let bits = drop (scan.place % 8) (hard_bits all) in
        let change = item_softened (first_level scan.place) all in
        let own = item_softened (first_level scan.place) levels item raw in
        let left = drop gone levels ++ new in
        let rest = changed_bits (item_softened (first_level next.place) (scanned ended left))
        (items_by ended next.place (drop (next.place % 8) (hard_bits (scanned ended left)))) (drop (next.place % 8) (hard_bits (scanned ended left))) in
        rw (first, written-cons change, own_bits, softened-given, behind-given, whole_octets-append (kept ++ own) rest, append_assoc)

-- a data unit at the beginning of bits
record IsUnitItem (place : ℕ) (bits : List Bool) (item : Item) : Type 0 where
  count : ℕ
  synced : has_sync bits ≡ true
  needs : need_of bits ≡ Length count
  is : item ≡ unit_item_of place (take count bits)

unit-even : (place : ℕ) (bits : List Bool) → is_even_packet (first_item place bits) ≡ true → IsUnitItem place bits (first_item place bits)
unit-even place bits =
    first_item-cases (λ item. is_even_packet item ≡ true → IsUnitItem place bits item) place bits
    (λ none even. absurd (cc))
    (λ count synced needs even. absurd (cc))
    (λ count synced needs even. record { count = count; synced = synced; needs = needs; is = refl })
    (λ field synced needs even. absurd (cc))

-- the parts of a broken packet at an even position
record IsEvenPacket (item : Item) : Type 0 where
  at : ℕ
  size : ℕ
  nac : ℕ
  duid : ℕ
  fields : List Field
  is : item ≡ Broken at size nac duid fields
  packet : duid ≡ 0xC
  even : place_of item % 2 ≡ 0

even-parts : (item : Item) → is_even_packet item ≡ true → IsEvenPacket item
even-parts (Broken at size nac duid fields) yes' =
    let both = and_parts (nat_eq duid 0xC) (nat_eq (at % 2) 0) yes' in
    record { at = at; size = size; nac = nac; duid = duid; fields = fields; is = refl; packet = eqb-true duid 0xC both.0; even = eqb-true (at % 2) 0 both.1 }
even-parts item yes' = absurd (cc)

-- a broken packet at an even position has the levels from which its bits were decided
pub heard-given : (scan next : Scan) (levels : List ℤ) (item : Item) (raw : List Bool) → IsHolding scan levels → Gave scan item raw next → is_even_packet item ≡ true → IsHeardAmong item levels raw
heard-given scan next levels item raw holding gave yes' =
    let given_item = place-given scan next item raw gave in
    let parts = even-parts item yes' in
    let unit = rw (← given_item.1) at (unit-even scan.place scan.held (rw (← given_item.1) yes')) in
    let count = unit.count in
    let there = need_of-there scan.held count unit.needs in
    let covers : covered item ≡ count = ap covered unit.is ∙ covered-unit_item_of scan.place scan.held count unit.needs in
    let at = scan.place % 8 / 2 in
    let half = count / 2 in
    let some : 72 < count = there.0 in
    let whole : count % 72 ≡ 0 = there.2 in
    let even : scan.place % 2 ≡ 0 = rw given_item.0 at parts.even in
    let place : scan.place % 8 ≡ 2 * at = omega arith in
    let twice : count ≡ 2 * half = omega arith in
    let inside : at + half ≤ length (grouped levels) = omega (arith, there.3, length-held (scan.place % 8) scan levels holding, place, twice) in
    let levels_of_item : item_levels item levels ≡ part at half levels = rw (given_item.0, covers) in
    let bits : take count scan.held ≡ hard_bits (part at half levels)
    = ap (take count) holding.held
    ∙ ap₂ (λ n k. part n k (hard_bits (grouped levels))) place twice
    ∙ hard_bits-part at half (grouped levels) inside
    ∙ rw (← part_left at half (grouped levels) (ungrouped levels) inside, grouped-ungrouped) in
    let heard = IsHeard-front (part at half levels) scan.held scan.place count parts.at parts.size parts.nac parts.duid parts.fields unit.synced unit.needs
    (sym unit.is ∙ parts.is) parts.packet bits in
    let raw_is : raw ≡ take count scan.held = rw covers at gave.raw_bits in
    record {
      there = omega (arith, inside, length-grouped levels, ap (λ p. p % 8 / 2) given_item.0, ap (λ c. c / 2) covers);
      heard =
          subst (λ (ls : List ℤ). IsHeard item ls raw) (sym levels_of_item)
          (subst (λ (r : List Bool). IsHeard item (part at half levels) r) (sym raw_is)
          (subst (λ (i : Item). IsHeard i (part at half levels) (take count scan.held)) (sym unit.is) heard));
    }

-- the levels that go with a returned item are there
pub gone-given : (scan next : Scan) (levels : List ℤ) (item : Item) (raw : List Bool) → IsHolding scan levels → Gave scan item raw next
    → first_level (place_of item + covered item) - first_level (place_of item) ≤ length levels
gone-given scan next levels item raw holding gave =
    let place = (place-given scan next item raw gave).0 in
    omega (arith, gone-there scan next levels item raw holding gave, place, gave.place)
