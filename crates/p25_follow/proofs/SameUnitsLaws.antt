-- Wherever in a stretch the scan begins, it comes to the same data units after it: at none of the stretch's positions does a data unit begin, and no
-- gap reaches past a sync. By induction on the positions that are left, and on the items of the stretch.
use Rattle.std.proofs.Common.{◌≡◌, ℕ, zero, suc, ◌+◌, ◌-◌, ◌<◌, ◌≤◌, Bool, true, false, inl, inr, ◌⊎◌, List, [], ◌∷◌, ◌++◌, length, take, drop, refl, sym, ap, ◌∙◌, add_assoc, append_assoc, append-nil, arith, length-drop}
use Rattle.std.proofs.{lemmas.Bool.{cases_Bool, cases_lt}, Math.Nat.{add-zero}, lemmas.List.{drop-drop}, lemmas.List.Sums.{sum_by-cons}, Math.Seq.{take-add}}
use Rattle.p25_status.specs.Sync.{has_sync}
use Rattle.p25_unit_front.proofs.FrontLaws.{identifier_of-take}
use Rattle.p25_units.specs.{Items.{covered, unit_item_of}, Needs.{need_of}, declared.item.Item.{Item}, declared.needs.Need.TheVariants.{Length, More, NoLength}}
use Rattle.p25_units.proofs.NeedsLaws.{IsIdentified-from, need_of-there}
use Rattle.p25_stream.specs.Items.{first_item, items_of, sync_place}
use Rattle.p25_stream.proofs.{ItemLaws.{items_by-among}, WrittenLaws.{items-there}}
use Rattle.p25_stream.proofs.{ItemsLaws.{covered-first_item, first_item-cases, first_item-gap, first_item-synced, items_by-first, items_by-more}, SyncPlaceLaws.{has_sync-before, sync_place-le}}
use Rattle.p25_follow.specs.{Followed.{is_rest}, StretchLaws.{all_rest, begins_rest, bits_in, units_among}}
use Rattle.p25_follow.proofs.{FoundLaws.{found-unit}, StepLaws.{and_left-true, and_right-true}}

-- ---- an item depends on its bits alone

-- the item of a data unit of a known length is a data unit
pub unit-there : (at count : ℕ) (bits : List Bool) → need_of bits ≡ Length count → is_rest (unit_item_of at (take count bits)) ≡ false
unit-there at count bits need =
    let there = need_of-there bits count need in
    let known = IsIdentified-from bits count need in
    let enough : 114 ≤ count = omega (arith, there.0, there.2) in
    (found-unit at known.nid (take count bits) (identifier_of-take count bits enough ∙ known.read)).unit

pub true-false : (b : Bool) → b ≡ true → b ≡ false → ⊥
true-false true yes' no' = absurd (cc)
true-false false yes' no' = absurd (cc)

pub no_sync-rest : (at : ℕ) (bits : List Bool) → has_sync bits ≡ false → is_rest (first_item at bits) ≡ true
no_sync-rest at bits no' = ap is_rest (first_item-gap at bits no')

pub unit-synced : (at : ℕ) (bits : List Bool) → is_rest (first_item at bits) ≡ false → has_sync bits ≡ true
unit-synced at bits unit =
    elim (cases_Bool (has_sync bits)) [
      | inl yes' ↦ yes'
      | inr no' ↦ absurd (true-false (is_rest (first_item at bits)) (no_sync-rest at bits no') unit)
    ]

-- whether a data unit begins is the same wherever the stream begins
pub rest-at : (at other : ℕ) (bits : List Bool) → is_rest (first_item at bits) ≡ true → is_rest (first_item other bits) ≡ true
rest-at at other bits rest =
    first_item-cases (λ item. is_rest (first_item at bits) ≡ true → is_rest item ≡ true) other bits
    (λ no' here. refl)
    (λ count yes' need here.
    absurd (true-false (is_rest (first_item at bits)) here (ap is_rest (first_item-synced at bits (More count) yes' need))))
    (λ count yes' need here.
    absurd (true-false (is_rest (first_item at bits)) here (ap is_rest (first_item-synced at bits (Length count) yes' need) ∙ unit-there at count bits need)))
    (λ field yes' need here. refl)
    rest

-- ---- how far a stretch reaches

-- no data unit begins at the first positions of some bits, as many as given
abbrev pub RestPlaces : ℕ → List Bool → Type 0
RestPlaces count bits = (place : ℕ) → place < count → is_rest (first_item 0 (drop place bits)) ≡ true

-- and then one begins, or the bits end
abbrev pub Ends : ℕ → List Bool → Type 0
Ends count bits = (count ≡ length bits) ⊎ (is_rest (first_item 0 (drop count bits)) ≡ false)

synced-end : (count : ℕ) (bits : List Bool) → is_rest (first_item 0 (drop count bits)) ≡ false → sync_place bits ≤ count
synced-end count bits unit =
    elim (cases_lt count (sync_place bits)) [
      | inl before ↦ absurd (true-false (has_sync (drop count bits)) (unit-synced 0 (drop count bits) unit) (has_sync-before bits count before))
      | inr behind ↦ behind
    ]

sync-within : (count : ℕ) (bits : List Bool) → Ends count bits → sync_place bits ≤ count
sync-within count bits (inl all) = omega (arith, all, sync_place-le bits)
sync-within count bits (inr unit) = synced-end count bits unit

covers-within : (at count : ℕ) (bits : List Bool) → 0 < count → Ends count bits → is_rest (first_item at bits) ≡ true → covered (first_item at bits) ≤ count
covers-within at count bits some ends =
    first_item-cases (λ item. is_rest item ≡ true → covered item ≤ count) at bits
    (λ no' rest. omega (arith, sync-within count bits ends))
    (λ n yes' need rest. absurd (cc))
    (λ n yes' need rest. absurd (true-false (is_rest (unit_item_of at (take n bits))) rest (unit-there at n bits need)))
    (λ field yes' need rest. omega arith)

-- the end is the same from a later position
ends-later : (count c : ℕ) (bits left : List Bool) (less : ℕ) → less + length bits ≡ count + length left → drop less left ≡ drop count bits → Ends count bits → Ends less left
ends-later count c bits left less long same (inl all) = inl (omega (arith, all, long))
ends-later count c bits left less long same (inr unit) = inr (rw same unit)

-- ---- along a stretch

-- a property of a position and of the bits before and after it: if it holds at the end of a stretch and each item carries it back, it holds at the beginning
pub along-stretch : (P : ℕ → List Bool → List Bool → Type 0)
    → ((at : ℕ) (before bits : List Bool) (item : Item) → items_of at bits ≡ item ∷ items_of (at + covered item) (drop (covered item) bits) → is_rest item ≡ true
    → P (at + covered item) (before ++ take (covered item) bits) (drop (covered item) bits) → P at before bits)
    → (n at count : ℕ) (before bits : List Bool) → count ≤ n → count ≤ length bits → RestPlaces count bits → Ends count bits
    → P (at + count) (before ++ take count bits) (drop count bits) → P at before bits
along-stretch P back n at zero before bits few there rests ends end = rw (add-zero, append-nil) at end
along-stretch P back zero at (suc count) before bits few there rests ends end = absurd (omega arith)
along-stretch P back (suc n) at (suc more) before bits few there rests ends end =
    let count = suc more in
    let some : 0 < length bits = omega arith in
    let rest : is_rest (first_item at bits) ≡ true = rest-at 0 at bits (rests 0 (omega arith)) in
    let item = first_item at bits in
    let c = covered item in
    let fits = covered-first_item at bits some in
    let within : c ≤ count = covers-within at count bits (omega arith) ends rest in
    let left = drop c bits in
    let less = count - c in
    let place : at + c + less ≡ at + count = omega arith in
    let all : c + less ≡ count = omega arith in
    let to_end : drop less left ≡ drop count bits = rw (drop-drop, all) in
    back at before bits item (items_by-more true at bits some refl) rest
    (along-stretch P back n (at + c) less (before ++ take c bits) left (omega (arith, fits.0)) (omega (arith, length-drop c bits)) (λ p first. rw drop-drop (rests (c + p) (omega arith)))
    (ends-later count c bits left less (omega (arith, length-drop c bits)) to_end ends) (rw (place, to_end, append_assoc, ← take-add, all) end))

-- ---- the data units after it

pub among-rest : (item : Item) (items : List Item) → is_rest item ≡ true → units_among (item ∷ items) ≡ units_among items
unfolding units_among
among-rest item items rest = rw rest

pub same_units-in : (at count : ℕ) (bits : List Bool) → count ≤ length bits → RestPlaces count bits → Ends count bits
    → units_among (items_of at bits) ≡ units_among (items_of (at + count) (drop count bits))
same_units-in at count bits there rests ends =
    along-stretch (λ place taken left. units_among (items_of place left) ≡ units_among (items_of (at + count) (drop count bits)))
    (λ place taken left item is rest same. rw (is, among-rest item (items_of (place + covered item) (drop (covered item) left)) rest) same)
    count at count [] bits (omega arith) there rests ends refl

-- ---- from the items of a stretch

pub record IsStretch (at : ℕ) (bits : List Bool) (count : ℕ) (after : List Item) : Type 0 where
  pub there : count ≤ length bits
  pub rests : RestPlaces count bits
  pub left : items_of (at + count) (drop count bits) ≡ after

-- no data unit begins at any position of an item that is none
pub places-of : (at : ℕ) (bits : List Bool) → is_rest (first_item at bits) ≡ true → RestPlaces (covered (first_item at bits)) bits
places-of at bits =
    first_item-cases (λ item. is_rest item ≡ true → RestPlaces (covered item) bits) at bits
    (λ no' rest place before. no_sync-rest 0 (drop place bits) (has_sync-before bits place (omega (arith, before))))
    (λ n yes' need rest. absurd (cc))
    (λ n yes' need rest. absurd (true-false (is_rest (unit_item_of at (take n bits))) rest (unit-there at n bits need)))
    (λ field yes' need rest place before.
    let first : place ≡ 0 = omega arith in
    rw (first, first_item-synced 0 bits (NoLength field) yes' need))

rests-from : (at : ℕ) (bits : List Bool) (stretch after : List Item) → items_of at bits ≡ stretch ++ after → all_rest stretch ≡ true → RestPlaces (bits_in stretch) bits
unfolding all_rest
rests-from at bits [] after is all place before = absurd (omega arith)
rests-from at bits (item ∷ stretch) after is all place before =
    let parts = items_by-first true at bits item (stretch ++ after) is in
    let c = covered item in
    let rest : is_rest (first_item at bits) ≡ true = rw parts.1 at (and_left-true (is_rest item) (all_rest stretch) all) in
    elim (cases_lt place c) [
      | inl first ↦ places-of at bits rest place (rw parts.1 at first)
      | inr behind ↦
          let split : c + (place - c) ≡ place = omega arith in
          rw (drop-drop, split) at (rests-from (at + c) (drop c bits) stretch after (sym parts.2) (and_right-true (is_rest item) (all_rest stretch) all) (place - c) (omega (arith, sum_by-cons covered item stretch)))
    ]

pub stretch-from : (at : ℕ) (bits : List Bool) (stretch after : List Item) → items_of at bits ≡ stretch ++ after → all_rest stretch ≡ true → IsStretch at bits (bits_in stretch) after
stretch-from at bits stretch after is all = record {
  there = items-there stretch after true at bits is;
  rests = rests-from at bits stretch after is all;
  left = items_by-among stretch after true at bits is;
}

-- there is no item only if there is no bit
none-left : (count at : ℕ) (bits : List Bool) → count ≤ length bits → items_of at (drop count bits) ≡ [] → count ≡ length bits
none-left count at bits there none =
    elim (cases_lt count (length bits)) [
      | inl before ↦
          let some : 0 < length (drop count bits) = omega (arith, length-drop count bits) in
          absurd (let wrong = sym (items_by-more true at (drop count bits) some refl) ∙ none in cc)
      | inr behind ↦ omega arith
    ]

pub unit-at : (at : ℕ) (bits : List Bool) → is_rest (first_item at bits) ≡ false → is_rest (first_item 0 bits) ≡ false
unit-at at bits unit =
    elim (cases_Bool (is_rest (first_item 0 bits))) [
      | inl rest ↦ absurd (true-false (is_rest (first_item at bits)) (rest-at 0 at bits rest) unit)
      | inr no' ↦ no'
    ]

-- a stretch ends before an item that belongs to none, or at the end of the bits
pub ends-before : (at count : ℕ) (bits : List Bool) (after : List Item) → count ≤ length bits → items_of (at + count) (drop count bits) ≡ after → begins_rest after ≡ false → Ends count bits
ends-before at count bits [] there is no' = inl (none-left count (at + count) bits there is)
ends-before at count bits (item ∷ items) there is no' =
    let parts = items_by-first true (at + count) (drop count bits) item items is in
    inr (unit-at (at + count) (drop count bits) (ap is_rest (sym parts.1) ∙ no'))

pub same-units : (at place : ℕ) (bits : List Bool) (stretch after : List Item) → items_of at bits ≡ stretch ++ after → all_rest stretch ≡ true → begins_rest after ≡ false → place ≤ bits_in stretch
    → units_among (items_of (at + place) (drop place bits)) ≡ units_among after
same-units at place bits stretch after is all no' within =
    let whole = stretch-from at bits stretch after is all in
    let count = bits_in stretch in
    let less = count - place in
    let all : place + less ≡ count = omega arith in
    let to_end : drop less (drop place bits) ≡ drop count bits = rw (drop-drop, all) in
    same_units-in (at + place) less (drop place bits) (omega (arith, length-drop place bits, whole.there)) (λ p before. rw drop-drop (whole.rests (place + p) (omega arith)))
    (ends-later count place bits (drop place bits) less (omega (arith, length-drop place bits, whole.there)) to_end (ends-before at count bits after whole.there whole.left no'))
    ∙ rw (to_end, add_assoc, all, whole.left)
