-- An item of a soft recording, decided: the levels of its bits and of the stretch before it are held, and the output for it and after it does not use
-- levels before the group of the first bit that is not written.
use Rattle.std.proofs.Common.{◌≡◌, ℕ, ◌+◌, ◌-◌, ◌*◌, ◌/◌, ◌%◌, ◌≤◌, Bool, true, false, inl, inr, List, [], ◌∷◌, ◌++◌, length, take, drop, replicate, refl, ap, ap₂, sym, subst, ◌∙◌, arith, append_assoc, length-append, length-drop, ℤ, pos}
use Rattle.std.proofs.lemmas.{Bool.{cases_Bool}, List.{length-replicate, length-take-le}}
use Rattle.std.specs.Option.{is_some}
use Rattle.p25_bits.specs.Bits.{part}
use Rattle.p25_bits.proofs.PartLaws.{drop_behind, part-drop, part_joined, part_right}
use Rattle.p25_status.specs.Sync.{has_sync}
use Rattle.p25_units.specs.{declared.item.Item.{Item}, declared.item.Item.TheVariants.{NoUnit, Gap}, Items.{covered, place_of, unit_item_of}, Needs.{need_of}, declared.needs.Need.TheVariants.{Length}, Units.{whole_octets}}
use Rattle.p25_units.proofs.{NeedsLaws.{need_of-there}, ItemsLaws.{covered-unit_item_of}}
use Rattle.p25_stream.specs.{Items.{first_item, items_by}, ItemLaws.{GaveItems}, Scan.{Scan, Gave}}
use Rattle.p25_stream.proofs.ItemsLaws.{first_item-cases}
use Rattle.p25_follow.specs.{Followed.{is_rest, unit_name}, Following.{Follow, behind_item, written_item}, Relayed.{IsFitItem}}
use Rattle.p25_soft.specs.{Levels.{hard_bits}, Softened.{IsHeard}}
use Rattle.p25_soft.proofs.HardBitsLaws.{hard_bits-append, hard_bits-part, length-hard_bits}
use Rattle.p25_decide.specs.{DecidedFollowing.{before_item, changed_by, own_item}, DecidedRecordings.{item_decided}, DecidedTaking.{AreFrom}}
use Rattle.p25_decide.proofs.{AlikeLaws.{changed-alike, kept-shorter}, UnitHeardLaws.{heard-front}}
use Rattle.p25_recording_filters.specs.{Commands.{unfilled}, SoftLevels.{grouped, scanned}, Softs.{IsHoldingAfter}}
use Rattle.p25_recording_filters.specs.Decides.{IsDeciding, ahead_of, decide_written, first_held, placed, start_of}
use Rattle.p25_recording_filters.proofs.HoldingLaws.{bits-gone, first-given, gone-among, holding-after, length-held, place-given, raw-given, scanned-gone}
use Rattle.p25_recording_filters.proofs.{OctetsLaws.{whole_octets-append}, SoftLevelsLaws.{scanned-split, ungrouped}}

-- ---- levels at their positions

-- the bits from a position on
pub placed-bits : (first more : ℕ) (levels : List ℤ) → drop (2 * first + more) (hard_bits (placed first levels)) ≡ drop more (hard_bits levels)
unfolding placed
placed-bits first more levels =
    let front = replicate first (pos 0) in
    let long : length (hard_bits front) ≡ 2 * first = omega (arith, length-hard_bits front, length-replicate first (pos 0)) in
    ap (drop (2 * first + more)) (hard_bits-append front levels) ∙ drop_behind (2 * first) more (hard_bits front) (hard_bits levels) long

-- a part of the levels
pub placed-part : (first at count : ℕ) (levels : List ℤ) → first ≤ at → part at count (placed first levels) ≡ part (at - first) count levels
unfolding placed
placed-part first at count levels there =
    let front = replicate first (pos 0) in
    let long = length-replicate first (pos 0) in
    part_right at count front levels (omega (arith, long, there)) ∙ ap (λ n. part (at - n) count levels) long

-- the levels that are held are those of the recording from the first one on, whatever levels come
pub placed-from : (ended : Bool) (first : ℕ) (levels new : List ℤ) → AreFrom first (grouped levels) (placed first (scanned ended (levels ++ new)))
unfolding placed
placed-from ended first levels new =
    ap (λ (ls : List ℤ). part first (length (grouped levels)) (replicate first (pos 0) ++ ls)) (scanned-split ended levels new)
    ∙ part_joined first (length (grouped levels)) (replicate first (pos 0)) (grouped levels) (scanned ended (ungrouped levels ++ new)) (length-replicate first (pos 0)) refl

-- levels before a first one are not looked at from there on
decided-same : (item : Item) (raw : List Bool) (levels others : List ℤ) → part (place_of item / 2) (covered item / 2) levels ≡ part (place_of item / 2) (covered item / 2) others
    → item_decided levels item raw ≡ item_decided others item raw
unfolding item_decided
decided-same item raw levels others same = rw same

decided-later : (first gone : ℕ) (levels : List ℤ) (item : Item) (raw : List Bool) → 2 * (first + gone) ≤ place_of item
    → item_decided (placed first levels) item raw ≡ item_decided (placed (first + gone) (drop gone levels)) item raw
decided-later first gone levels item raw later =
    let at = place_of item / 2 in
    let count = covered item / 2 in
    let inside : first + gone ≤ at = omega (arith, later) in
    let same : gone + (at - (first + gone)) ≡ at - first = omega (arith, inside) in
    decided-same item raw (placed first levels) (placed (first + gone) (drop gone levels))
    (
    placed-part first at count levels (omega (arith, inside))
    ∙ ap (λ n. part n count levels) (sym same)
    ∙ sym (part-drop (at - (first + gone)) count gone levels)
    ∙ sym (placed-part (first + gone) at count (drop gone levels) inside)
    )

-- ---- an item is given

-- the positions of the levels that are held, before and after it
record IsMoved (place next : ℕ) (follow now : Follow) (covers : ℕ) : Type 0 where
  places : 2 * first_held place follow + ahead_of place follow ≡ place
  starts : 2 * first_held place follow + start_of place follow % 8 ≡ start_of place follow
  later : first_held place follow ≤ first_held next now
  start_later : 2 * first_held next now ≤ start_of next now
  next_places : 2 * first_held next now + ahead_of next now ≡ next
  moves : 2 * (first_held next now - first_held place follow) + ahead_of next now ≡ ahead_of place follow + covers
  groups : (first_held next now - first_held place follow) % 4 ≡ 0
  gone_is : first_held place follow + (first_held next now - first_held place follow) ≡ first_held next now

moved : (place next : ℕ) (follow now : Follow) (covers : ℕ) → length follow.stretch ≤ place → next ≡ place + covers → length now.stretch ≤ length follow.stretch + covers → IsMoved place next follow now covers
moved place next follow now covers there is_next shorter =
    let later : start_of place follow ≤ start_of next now = omega (arith, is_next, shorter, there) in
    let groups_later : first_held place follow ≤ first_held next now = omega (arith, later) in
    let before : 2 * first_held place follow ≤ place = omega arith in
    let after : 2 * first_held next now ≤ next = omega arith in
    record {
      places = omega (arith, before);
      starts = omega arith;
      later = groups_later;
      start_later = omega arith;
      next_places = omega (arith, after);
      moves = omega (arith, before, after, groups_later, is_next);
      groups = omega arith;
      gone_is = omega (arith, groups_later);
    }

pub changed-cons : (change : Item → List Bool → List Bool) (ended : Bool) (at : ℕ) (kept : Follow) (item : Item) (items : List Item) (bits raw : List Bool) → take (covered item) bits ≡ raw
    → changed_by change ended at kept (item ∷ items) bits
    ≡ before_item change at kept item raw
    ++ (own_item change item raw ++ changed_by change ended (at + length (kept.stretch ++ raw) - length (behind_item kept item raw).stretch) (behind_item kept item raw) items (drop (covered item) bits))
unfolding changed_by
changed-cons change ended at kept item items bits raw is =
    ap (λ (r : List Bool). before_item change at kept item r
    ++ (own_item change item r ++ changed_by change ended (at + length (kept.stretch ++ r) - length (behind_item kept item r).stretch) (behind_item kept item r) items (drop (covered item) bits))) is

module _ (scan next : Scan) (follow : Follow) (levels : List ℤ) (item : Item) (raw : List Bool) (deciding : IsDeciding scan follow levels) (gave : Gave scan item raw next) where
  raw-long : length raw ≡ covered item
  raw-long = omega (arith, ap length gave.raw_bits, gave.there, length_take)
    where
      length_take : length (take (covered item) scan.held) ≡ covered item
      length_take = length-take-le (covered item) scan.held gave.there

  now : Follow
  now = behind_item follow item raw

  goes : IsMoved scan.place next.place follow now (covered item)
  unfolding now
  goes = moved scan.place next.place follow now (covered item) deciding.there gave.place (omega (arith, kept-shorter follow item raw, length-append follow.stretch raw, raw-long))

  abbrev pub gone-by : ℕ
  gone-by = first_held next.place (behind_item follow item raw) - first_held scan.place follow

  -- the levels of the item, and of the stretch that is kept, are held
  pub decided-there : start_of scan.place follow % 8 + length follow.stretch + covered item ≤ 2 * length (grouped levels)
  decided-there = omega (arith, gave.there, length-held (ahead_of scan.place follow) scan levels deciding.holding, goes.places, goes.starts, deciding.there)

  pub gone-inside : gone-by ≤ length levels
  unfolding now
  gone-inside = gone-among (ahead_of scan.place follow) (ahead_of next.place now) gone-by scan next levels item raw deciding.holding gave goes.moves goes.groups

  pub later-next : first_held scan.place follow ≤ first_held next.place (behind_item follow item raw)
  unfolding now
  later-next = goes.later

  pub deciding-next : IsDeciding next (behind_item follow item raw) (drop gone-by levels)
  unfolding now
  deciding-next = record {
    there = omega (arith, kept-shorter follow item raw, length-append follow.stretch raw, raw-long, gave.place, deciding.there);
    holding = holding-after (ahead_of scan.place follow) (ahead_of next.place now) gone-by scan next levels item raw deciding.holding gave goes.moves goes.groups;
    few = omega (arith, deciding.few, goes.gone_is, length-drop gone-by levels, gone-inside);
  }

  pub size-next : first_held next.place (behind_item follow item raw) + length (drop gone-by levels) ≡ first_held scan.place follow + length levels
  unfolding now
  size-next = omega (arith, goes.gone_is, length-drop gone-by levels, gone-inside)

  -- what is written of it, and what is written after it
  pub decide-given : GaveItems → (ended : Bool) (new : List ℤ) (kept bits own : List Bool) → (scan.finished ≡ true → (ended ≡ true) × (new ≡ []))
      → ((all : List ℤ) → AreFrom (first_held scan.place follow) (grouped levels) all → bits ≡ before_item (item_decided all) (start_of scan.place follow) follow item raw)
      → ((all : List ℤ) → AreFrom (first_held scan.place follow) (grouped levels) all → own ≡ own_item (item_decided all) item raw)
      → decide_written ended scan.place follow (levels ++ new) kept
      ≡ whole_octets (kept ++ (bits ++ own)) ++ decide_written ended next.place (behind_item follow item raw) (drop gone-by levels ++ new) (unfilled (kept ++ (bits ++ own)))
  unfolding now
  decide-given gave_items ended new kept bits own all_there bits_are own_are =
      let first = first_held scan.place follow in
      let at = start_of scan.place follow in
      let ahead = ahead_of scan.place follow in
      let after = ahead_of next.place now in
      let scanned_all = scanned ended (levels ++ new) in
      let all = placed first scanned_all in
      let left = scanned ended (drop gone-by levels ++ new) in
      let later = placed (first_held next.place now) left in
      let from = placed-from ended first levels new in
      let change = item_decided all in
      let stream = drop scan.place (hard_bits all) in
      let here : stream ≡ drop ahead (hard_bits scanned_all) = ap (λ n. drop n (hard_bits all)) (sym goes.places) ∙ placed-bits first ahead scanned_all in
      let there : drop (covered item) stream ≡ drop next.place (hard_bits later)
      = ap (drop (covered item)) here
      ∙ sym (bits-gone ahead after gone-by scan next levels item raw deciding.holding gave goes.moves goes.groups ended new)
      ∙ sym (placed-bits (first_held next.place now) after left)
      ∙ ap (λ n. drop n (hard_bits later)) goes.next_places in
      let items : items_by ended scan.place stream ≡ item ∷ items_by ended next.place (drop (covered item) stream)
      = rw here (first-given ahead after gone-by scan next levels item raw deciding.holding gave goes.moves goes.groups gave_items ended new all_there) in
      let raw_is : take (covered item) stream ≡ raw
      = ap (take (covered item)) here ∙ raw-given ahead after gone-by scan next levels item raw deciding.holding gave goes.moves goes.groups gave_items ended new all_there in
      let next_at : at + length (follow.stretch ++ raw) - length now.stretch ≡ start_of next.place now
      = omega (arith, length-append follow.stretch raw, raw-long, gave.place, deciding.there) in
      let same : later ≡ placed (first + gone-by) (drop gone-by scanned_all)
      = ap₂ placed (sym goes.gone_is) (sym (scanned-gone ahead after gone-by scan next levels item raw deciding.holding gave goes.moves goes.groups ended new)) in
      let alike : (other : Item) (sent : List Bool) → start_of next.place now ≤ place_of other → item_decided all other sent ≡ item_decided later other sent
      = λ other sent late.
      decided-later first gone-by scanned_all other sent (omega (arith, goes.gone_is, goes.start_later, late)) ∙ ap (λ (ls : List ℤ). item_decided ls other sent) (sym same) in
      let after_start : start_of next.place now ≤ next.place = omega arith in
      let rest = drop next.place (hard_bits later) in
      let tail = changed_by (item_decided later) ended (start_of next.place now) now (items_by ended next.place rest) rest in
      let behind : changed_by change ended (at + length (follow.stretch ++ raw) - length now.stretch) now (items_by ended next.place (drop (covered item) stream)) (drop (covered item) stream) ≡ tail
      = ap₂ (λ n (bs : List Bool). changed_by change ended n now (items_by ended next.place bs) bs) next_at there
      ∙ changed-alike change (item_decided later) (start_of next.place now) alike (items_by ended next.place rest) ended next.place (start_of next.place now) now rest rest (omega arith) after_start refl in
      let whole : changed_by change ended at follow (items_by ended scan.place stream) stream ≡ (bits ++ own) ++ tail
      = ap (λ (is : List Item). changed_by change ended at follow is stream) items
      ∙ changed-cons change ended at follow item (items_by ended next.place (drop (covered item) stream)) stream raw raw_is
      ∙ ap₂ (λ (xs ys : List Bool). xs ++ ys) (sym (bits_are all from)) (ap₂ (λ (xs ys : List Bool). xs ++ ys) (sym (own_are all from)) behind)
      ∙ sym (append_assoc bits own tail) in
      ap (λ (xs : List Bool). whole_octets (kept ++ xs)) whole
      ∙ ap (λ (xs : List Bool). whole_octets xs) (sym (append_assoc kept (bits ++ own) tail))
      ∙ sym (whole_octets-append (kept ++ (bits ++ own)) tail)

-- ---- by the numbers of the code

module _ (place count : ℕ) (scan : Scan) (follow : Follow) (place_is : place ≡ scan.place) (count_is : count ≡ length follow.stretch) (there : length follow.stretch ≤ scan.place) where
  pub starts-at : 2 * first_held scan.place follow + (place - count) % 8 ≡ start_of scan.place follow
  starts-at = omega (arith, place_is, count_is)

  pub ahead-at : (place - count) % 8 + length follow.stretch ≡ ahead_of scan.place follow
  ahead-at = omega (arith, place_is, count_is, there)

  pub from-at : start_of scan.place follow % 8 ≡ (place - count) % 8
  from-at = omega (arith, place_is, count_is)

  pub item-at : 2 * first_held scan.place follow + (place - count) % 8 + length follow.stretch ≡ scan.place
  item-at = omega (arith, place_is, count_is, there)

-- the levels that go
pub gone-at : (place covers before after : ℕ) (scan next : Scan) (follow now : Follow) → place ≡ scan.place → next.place ≡ scan.place + covers → before ≡ length follow.stretch → after ≡ length now.stretch
    → 4 * ((place + covers - after) / 8) - 4 * ((place - before) / 8) ≡ first_held next.place now - first_held scan.place follow
gone-at place covers before after scan next follow now place_is next_is before_is after_is = omega (arith, place_is, next_is, before_is, after_is)

-- an item of a stretch is short
pub rest-short : (item : Item) → IsFitItem item → is_rest item ≡ true → covered item ≤ 4096
rest-short (NoUnit place field) fits rest = omega arith
rest-short (Gap place count) fits rest = fits
rest-short item fits rest = absurd (cc)

-- an item's own bits
pub own-written : (change : Item → List Bool → List Bool) (item : Item) (raw now : List Bool) → (is_rest item ≡ false → now ≡ change item raw) → written_item item now ≡ own_item change item raw
unfolding written_item own_item
own-written change item raw now is =
    elim (cases_Bool (is_rest item)) [
      | inl rest ↦ rw rest refl
      | inr unit ↦ rw unit (is unit)
    ]

-- ---- the levels of an item

-- a unit at the beginning of bits
record IsUnitItem (place : ℕ) (bits : List Bool) (item : Item) : Type 0 where
  count : ℕ
  synced : has_sync bits ≡ true
  needs : need_of bits ≡ Length count
  is : item ≡ unit_item_of place (take count bits)

unit-named : (place : ℕ) (bits : List Bool) → is_some (unit_name (first_item place bits)) ≡ true → IsUnitItem place bits (first_item place bits)
unit-named place bits =
    first_item-cases (λ item. is_some (unit_name item) ≡ true → IsUnitItem place bits item) place bits
    (λ none named. absurd (cc))
    (λ count synced needs named. absurd (cc))
    (λ count synced needs named. record { count = count; synced = synced; needs = needs; is = refl })
    (λ field synced needs named. absurd (cc))

-- a unit at an even bit is heard from the levels of its bits
pub unit-heard : (ahead : ℕ) (scan next : Scan) (levels : List ℤ) (item : Item) (raw : List Bool) → IsHoldingAfter ahead scan levels → Gave scan item raw next
    → is_some (unit_name item) ≡ true → ahead % 2 ≡ 0 → IsHeard item (part (ahead / 2) (covered item / 2) (grouped levels)) raw
unit-heard ahead scan next levels item raw holding gave named even =
    let given_item = place-given scan next item raw gave in
    let unit = subst (λ (i : Item). is_some (unit_name i) ≡ true → IsUnitItem scan.place scan.held i) (sym given_item.1) (unit-named scan.place scan.held) named in
    let count = unit.count in
    let there = need_of-there scan.held count unit.needs in
    let covers : covered item ≡ count = ap covered unit.is ∙ covered-unit_item_of scan.place scan.held count unit.needs in
    let at = ahead / 2 in
    let half = count / 2 in
    let whole : count % 72 ≡ 0 = there.2 in
    let place : ahead ≡ 2 * at = omega arith in
    let twice : count ≡ 2 * half = omega arith in
    let inside : at + half ≤ length (grouped levels) = omega (arith, there.3, length-held ahead scan levels holding, place, twice) in
    let bits : take count scan.held ≡ hard_bits (part at half (grouped levels))
    = ap (take count) holding.held ∙ ap₂ (λ n k. part n k (hard_bits (grouped levels))) place twice ∙ hard_bits-part at half (grouped levels) inside in
    let heard = heard-front (part at half (grouped levels)) scan.held scan.place count unit.synced unit.needs bits in
    let raw_is : raw ≡ take count scan.held = gave.raw_bits ∙ ap (λ n. take n scan.held) covers in
    subst (λ n. IsHeard item (part at (n / 2) (grouped levels)) raw) (sym covers)
    (subst (λ (r : List Bool). IsHeard item (part at half (grouped levels)) r) (sym raw_is)
    (subst (λ (i : Item). IsHeard i (part at half (grouped levels)) (take count scan.held)) (sym unit.is) heard))
