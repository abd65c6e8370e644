-- The items of a stream: the cases of the first item, the walk one step at a time, and stability under more bits. The only facts about data units are
-- the laws that p25_units gives a scanner.
use Rattle.std.proofs.Common.{◌≡◌, ℕ, zero, suc, ◌+◌, ◌<◌, ◌≤◌, inl, inr, Bool, true, false, ◌||◌, cond, min, List, [], ◌∷◌, ◌++◌, length, take, drop, refl, ap, sym, ◌∙◌, subst, arith, length-append, length-drop}
use Rattle.std.proofs.{lemmas.Bool.{cases_Bool, cases_lt, le-leb, leb-true, cond-true, cond-false, or_right}, lemmas.List.{take-append-le, drop-append-le}}
use Rattle.p25_status.specs.{Sync.{has_sync}, declared.fields.Field.{Field}}
use Rattle.p25_status.proofs.SyncLaws.{has_sync-length, has_sync-append}
use Rattle.p25_units.specs.{Items.{covered, place_of, IsSoundItem, unit_item_of}, Needs.{is_known, need_of}, declared.needs.Need.{Need}}
use Rattle.p25_units.specs.{declared.needs.Need.TheVariants.{NoSync, More, Length, NoLength}, declared.item.Item.{Item}, declared.item.Item.TheVariants.{NoUnit, Gap, Cut}}
use Rattle.p25_units.proofs.NeedsLaws.{need_of-few, need_of-there, need_of-seen, need_of-stays}
use Rattle.p25_units.proofs.ItemsLaws.{covered-unit_item_of, place_of-unit_item_of, IsSoundItem-unit_item_of, unit_item_of-no_gap}
use Rattle.p25_stream.specs.Items.{sync_place, synced_item, gap_of, first_item, gap_known, is_decided, items_in, items_by, decided_of}
use Rattle.p25_stream.proofs.SyncPlaceLaws.{sync_place-le, sync_place-unsynced, sync_place-append, sync_place-append_far}

-- the first item, with and without a sync
pub first_item-gap : (at : ℕ) (bits : List Bool) → has_sync bits ≡ false → first_item at bits ≡ Gap at (gap_of bits)
unfolding first_item
first_item-gap at bits no' = cond-false (has_sync bits) (synced_item at bits (need_of bits)) (Gap at (gap_of bits)) no'

pub first_item-synced : (at : ℕ) (bits : List Bool) (need : Need) → has_sync bits ≡ true → need_of bits ≡ need → first_item at bits ≡ synced_item at bits need
unfolding first_item
first_item-synced at bits need yes' is = cond-true (has_sync bits) (synced_item at bits (need_of bits)) (Gap at (gap_of bits)) yes' ∙ ap (synced_item at bits) is

-- and whether it is decided
pub is_decided-gap : (bits : List Bool) → has_sync bits ≡ false → is_decided bits ≡ gap_known (gap_of bits) (length bits)
unfolding is_decided
is_decided-gap bits no' = cond-false (has_sync bits) (is_known (need_of bits)) (gap_known (gap_of bits) (length bits)) no'

pub is_decided-synced : (bits : List Bool) (need : Need) → has_sync bits ≡ true → need_of bits ≡ need → is_decided bits ≡ is_known need
unfolding is_decided
is_decided-synced bits need yes' is = cond-true (has_sync bits) (is_known (need_of bits)) (gap_known (gap_of bits) (length bits)) yes' ∙ ap is_known is

-- a property that holds in each case of the first item holds for it
synced-cases : (P : Item → Type 0) (at : ℕ) (bits : List Bool) (need : Need) → has_sync bits ≡ true → need_of bits ≡ need
    → ((count : ℕ) → has_sync bits ≡ true → need_of bits ≡ More count → P (Cut at (length bits)))
    → ((count : ℕ) → has_sync bits ≡ true → need_of bits ≡ Length count → P (unit_item_of at (take count bits)))
    → ((field : Field) → has_sync bits ≡ true → need_of bits ≡ NoLength field → P (NoUnit at field))
    → P (synced_item at bits need)
synced-cases P at bits NoSync yes' is cut unit none = absurd (need_of-seen bits yes' is)
synced-cases P at bits (More count) yes' is cut unit none = cut count yes' is
synced-cases P at bits (Length count) yes' is cut unit none = unit count yes' is
synced-cases P at bits (NoLength field) yes' is cut unit none = none field yes' is

pub first_item-cases : (P : Item → Type 0) (at : ℕ) (bits : List Bool)
    → (has_sync bits ≡ false → P (Gap at (gap_of bits)))
    → ((count : ℕ) → has_sync bits ≡ true → need_of bits ≡ More count → P (Cut at (length bits)))
    → ((count : ℕ) → has_sync bits ≡ true → need_of bits ≡ Length count → P (unit_item_of at (take count bits)))
    → ((field : Field) → has_sync bits ≡ true → need_of bits ≡ NoLength field → P (NoUnit at field))
    → P (first_item at bits)
first_item-cases P at bits gap cut unit none =
    elim (cases_Bool (has_sync bits)) [
      | inr no' ↦ subst P (sym (first_item-gap at bits no')) (gap no')
      | inl yes' ↦ subst P (sym (first_item-synced at bits (need_of bits) yes' refl)) (synced-cases P at bits (need_of bits) yes' refl cut unit none)
    ]

-- the first item of bits that are not empty covers some of them, and no more than there are
pub covered-first_item : (at : ℕ) (bits : List Bool) → 0 < length bits → (0 < covered (first_item at bits)) × (covered (first_item at bits) ≤ length bits)
covered-first_item at bits some =
    first_item-cases (λ item. (0 < covered item) × (covered item ≤ length bits)) at bits
    (λ no'. (omega (arith, sync_place-unsynced bits some no'), omega (arith, sync_place-le bits)))
    (λ count yes' is. (some, omega arith))
    (λ count yes' is.
    let covers = covered-unit_item_of at bits count is in
    let there = need_of-there bits count is in
    (omega (arith, covers, there.0), omega (arith, covers, there.3)))
    (λ field yes' is. (omega arith, omega arith))

-- it begins with its bits, and is sound
pub place_of-first_item : (at : ℕ) (bits : List Bool) → place_of (first_item at bits) ≡ at
place_of-first_item at bits =
    first_item-cases (λ item. place_of item ≡ at) at bits (λ no'. refl) (λ count yes' is. refl) (λ count yes' is. place_of-unit_item_of at (take count bits)) (λ field yes' is. refl)

pub IsSoundItem-first_item : (at : ℕ) (bits : List Bool) → IsSoundItem (first_item at bits)
IsSoundItem-first_item at bits =
    first_item-cases IsSoundItem at bits (λ no'. tt) (λ count yes' is. tt) (λ count yes' is. IsSoundItem-unit_item_of at bits count is) (λ field yes' is. tt)

-- a gap that comes first has no sync at its first position
pub gap-first : (at : ℕ) (bits : List Bool) (place count : ℕ) → Gap place count ≡ first_item at bits → (has_sync bits ≡ false) × (count ≡ gap_of bits)
gap-first at bits place count is =
    first_item-cases (λ item. Gap place count ≡ item → (has_sync bits ≡ false) × (count ≡ gap_of bits)) at bits
    (λ no' same. (no', cc))
    (λ n yes' is same. absurd (cc))
    (λ n yes' is same. absurd (unit_item_of-no_gap at (take n bits) place count (sym same)))
    (λ field yes' is same. absurd (cc))
    is

-- with turns enough for every bit their number does not matter
items_in-enough : (more turns : ℕ) (ended : Bool) (at : ℕ) (bits : List Bool) → length bits ≤ more → length bits ≤ turns → items_in more ended at bits ≡ items_in turns ended at bits
unfolding items_in
items_in-enough zero (suc turns) ended at (bit ∷ bits) a b = absurd (omega arith)
items_in-enough (suc more) zero ended at (bit ∷ bits) a b = absurd (omega arith)
items_in-enough (suc more) (suc turns) ended at (bit ∷ bits) a b =
    let item = first_item at (bit ∷ bits) in
    let rest = drop (covered item) (bit ∷ bits) in
    let fits = covered-first_item at (bit ∷ bits) (omega arith) in
    let less : length rest ≤ length bits = omega (arith, length-drop (covered item) (bit ∷ bits)) in
    ap (λ items. cond (ended || is_decided (bit ∷ bits)) (item ∷ items) []) (items_in-enough more turns ended (at + covered item) rest (omega arith) (omega arith))
items_in-enough more turns ended at bits a b = refl

-- no bits have no item
pub items_by-nil : (ended : Bool) (at : ℕ) → items_by ended at [] ≡ []
unfolding items_by items_in
items_by-nil ended at = refl

-- a step of the walk
items_by-cons : (ended : Bool) (at : ℕ) (bit : Bool) (bits : List Bool)
    → items_by ended at (bit ∷ bits) ≡ cond (ended || is_decided (bit ∷ bits)) (first_item at
    (bit ∷ bits) ∷ items_by ended (at + covered (first_item at (bit ∷ bits))) (drop (covered (first_item at (bit ∷ bits))) (bit ∷ bits))) []
unfolding items_by items_in
items_by-cons ended at bit bits =
    let item = first_item at (bit ∷ bits) in
    let rest = drop (covered item) (bit ∷ bits) in
    let fits = covered-first_item at (bit ∷ bits) (omega arith) in
    let less : length rest ≤ length bits = omega (arith, length-drop (covered item) (bit ∷ bits)) in
    ap (λ items. cond (ended || is_decided (bit ∷ bits)) (item ∷ items) []) (items_in-enough (length bits) (length rest) ended (at + covered item) rest less (omega arith))

pub items_by-more : (ended : Bool) (at : ℕ) (bits : List Bool) → 0 < length bits → (ended || is_decided bits) ≡ true
    → items_by ended at bits ≡ first_item at bits ∷ items_by ended (at + covered (first_item at bits)) (drop (covered (first_item at bits)) bits)
items_by-more ended at [] some goes = absurd (omega arith)
items_by-more ended at (bit ∷ bits) some goes = items_by-cons ended at bit bits ∙ cond-true (ended || is_decided (bit ∷ bits)) _ [] goes

pub items_by-none : (ended : Bool) (at : ℕ) (bits : List Bool) → (ended || is_decided bits) ≡ false → items_by ended at bits ≡ []
items_by-none ended at [] stops = items_by-nil ended at
items_by-none ended at (bit ∷ bits) stops = items_by-cons ended at bit bits ∙ cond-false (ended || is_decided (bit ∷ bits)) _ [] stops

-- a list with a first item gives its parts, and the bits that this item covers are there
pub items_by-first : (ended : Bool) (at : ℕ) (bits : List Bool) (item : Item) (items : List Item) → items_by ended at bits ≡ item ∷ items
    → (0 < length bits) × (item ≡ first_item at bits) × (items ≡ items_by ended (at + covered item) (drop (covered item) bits))
    × (0 < covered item) × (covered item ≤ length bits)
items_by-first ended at [] item items is = let none : [] ≡ item ∷ items = sym (items_by-nil ended at) ∙ is in absurd (cc)
items_by-first ended at (bit ∷ bits) item items is =
    let all = bit ∷ bits in
    elim (cases_Bool (ended || is_decided all)) [
      | inr stops ↦ let none : [] ≡ item ∷ items = sym (items_by-none ended at all stops) ∙ is in absurd (cc)
      | inl goes ↦
          let first = first_item at all in
          let two : first ∷ items_by ended (at + covered first) (drop (covered first) all) ≡ item ∷ items = sym (items_by-more ended at all (omega arith) goes) ∙ is in
          let same : first ≡ item = cc in
          let rest : items ≡ items_by ended (at + covered first) (drop (covered first) all) = cc in
          let fits = rw same at (covered-first_item at all (omega arith)) in
          (omega arith, sym same, rw same at rest, fits.0, fits.1)
    ]

-- a gap that is known is the same under more bits, and known
gap-append : (bits more : List Bool) → has_sync bits ≡ false → gap_known (gap_of bits) (length bits) ≡ true
    → (has_sync (bits ++ more) ≡ false) × (gap_of (bits ++ more) ≡ gap_of bits) × (gap_known (gap_of (bits ++ more)) (length (bits ++ more)) ≡ true)
gap-append bits more no' known =
    let fits : min (gap_of bits + 48) (4096 + 47) ≤ length bits = leb-true (min (gap_of bits + 48) (4096 + 47)) (length bits) known in
    let long : 48 ≤ length bits = omega arith in
    let same : gap_of (bits ++ more) ≡ gap_of bits
    = elim (cases_lt (sync_place bits) 4096) [
      | inl short ↦ ap (λ n. min n 4096) (sync_place-append bits more (omega arith))
      | inr full ↦ omega (arith, sync_place-append_far 4096 bits more (omega arith) (omega arith))
    ] in (
      has_sync-append bits more long ∙ no',
      same,
      le-leb (min (gap_of (bits ++ more) + 48) (4096 + 47)) (length (bits ++ more)) (omega (arith, same, length-append bits more)),
    )

-- the item at a sync stays
synced-append : (at : ℕ) (bits more : List Bool) (need : Need) → need_of bits ≡ need → is_known need ≡ true → synced_item at (bits ++ more) need ≡ synced_item at bits need
synced-append at bits more (More count) is known = absurd (cc)
synced-append at bits more (Length count) is known = ap (unit_item_of at) (take-append-le count bits more (need_of-there bits count is).3)
synced-append at bits more need is known = refl

-- a first item that is decided stays the first
pub first_item-append : (at : ℕ) (bits more : List Bool) → is_decided bits ≡ true → (first_item at (bits ++ more) ≡ first_item at bits) × (is_decided (bits ++ more) ≡ true)
first_item-append at bits more decided =
    elim (cases_Bool (has_sync bits)) [
      | inr no' ↦
          let known = sym (is_decided-gap bits no') ∙ decided in
          let stays = gap-append bits more no' known in (
            first_item-gap at (bits ++ more) stays.0 ∙ ap (Gap at) stays.1 ∙ sym (first_item-gap at bits no'),
            is_decided-gap (bits ++ more) stays.0 ∙ stays.2,
          )
      | inl yes' ↦
          let need = need_of bits in
          let known = sym (is_decided-synced bits need yes' refl) ∙ decided in
          let still = has_sync-append bits more (has_sync-length bits yes') ∙ yes' in
          let stays = need_of-stays bits more yes' known in (
            first_item-synced at (bits ++ more) need still stays ∙ synced-append at bits more need refl known ∙ sym (first_item-synced at bits need yes' refl),
            is_decided-synced (bits ++ more) need still stays ∙ known,
          )
    ]

-- a need is known if the bits of the longest data unit are there, and so is a gap
need-known : (bits : List Bool) (need : Need) → need_of bits ≡ need → 25920 ≤ length bits → is_known need ≡ true
need-known bits NoSync is long = refl
need-known bits (More count) is long = let few = need_of-few bits count is in absurd (omega (arith, few.0, few.1, long))
need-known bits (Length count) is long = refl
need-known bits (NoLength field) is long = refl

pub enough-decide : (bits : List Bool) → 25920 ≤ length bits → is_decided bits ≡ true
enough-decide bits long =
    elim (cases_Bool (has_sync bits)) [
      | inr no' ↦ is_decided-gap bits no' ∙ le-leb (min (gap_of bits + 48) (4096 + 47)) (length bits) (omega (arith, long))
      | inl yes' ↦ is_decided-synced bits (need_of bits) yes' refl ∙ need-known bits (need_of bits) refl long
    ]

-- no bits decide nothing
pub decided-some : (bits : List Bool) → is_decided bits ≡ true → 0 < length bits
decided-some bits decided =
    elim (cases_Bool (has_sync bits)) [
      | inr no' ↦
          let known = sym (is_decided-gap bits no') ∙ decided in
          omega (arith, leb-true (min (gap_of bits + 48) (4096 + 47)) (length bits) known)
      | inl yes' ↦ omega (arith, has_sync-length bits yes')
    ]

-- the items of more bits, if the first is decided
pub items_by-decided : (ended : Bool) (at : ℕ) (bits more : List Bool) → is_decided bits ≡ true
    → items_by ended at (bits ++ more) ≡ first_item at bits ∷ items_by ended (at + covered (first_item at bits)) (drop (covered (first_item at bits)) bits ++ more)
items_by-decided ended at bits more decided =
    let some = decided-some bits decided in
    let stays = first_item-append at bits more decided in
    let left = drop-append-le (covered (first_item at bits)) bits more (covered-first_item at bits some).1 in
    items_by-more ended at (bits ++ more) (omega (arith, length-append bits more)) (or_right ended (is_decided (bits ++ more)) stays.1)
    ∙ ap (λ item. item ∷ items_by ended (at + covered item) (drop (covered item) (bits ++ more))) stays.0
    ∙ ap (λ rest. first_item at bits ∷ items_by ended (at + covered (first_item at bits)) rest) left

-- the items that some turns decide are the first of the items of more bits
items_in-stay : (turns : ℕ) (ended : Bool) (at : ℕ) (bits more : List Bool) → (rest : List Item) × (items_by ended at (bits ++ more) ≡ items_in turns false at bits ++ rest)
unfolding items_in
items_in-stay zero ended at bits more = (items_by ended at (bits ++ more), refl)
items_in-stay (suc turns) ended at [] more = (items_by ended at more, refl)
items_in-stay (suc turns) ended at (bit ∷ bits) more =
    let all = bit ∷ bits in
    let item = first_item at all in
    let later = items_in turns false (at + covered item) (drop (covered item) all) in
    elim (cases_Bool (is_decided all)) [
      | inl decided ↦
          let behind = items_in-stay turns ended (at + covered item) (drop (covered item) all) more in (
            behind.0,
            items_by-decided ended at all more decided
                ∙ ap (λ items. item ∷ items) behind.1
                ∙ sym (ap (λ items. items ++ behind.0) (cond-true (is_decided all) (item ∷ later) [] decided)),
          )
      | inr open' ↦ (items_by ended at (all ++ more), sym (ap (λ items. items ++ items_by ended at (all ++ more)) (cond-false (is_decided all) (item ∷ later) [] open')))
    ]

pub items_by-stay : (ended : Bool) (at : ℕ) (bits more : List Bool) → (rest : List Item) × (items_by ended at (bits ++ more) ≡ decided_of at bits ++ rest)
unfolding items_by
items_by-stay ended at bits more = items_in-stay (length bits) ended at bits more
