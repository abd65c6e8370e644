-- A data unit that hides another begins at a sync, at most 25,919 bits before it. If that sync lies in a data unit that ends before, this is the same data
-- unit, since items lie end to end; but the hiding one ends later.
use Rattle.std.proofs.Common.{◌≡◌, ℕ, ◌+◌, ◌<◌, ◌≤◌, ◌⊎◌, inl, inr, Bool, true, List, [], ◌∷◌, ◌++◌, length, drop, ap, sym, ◌∙◌, subst, arith}
use Rattle.std.proofs.{lemmas.Bool.{true≢false}, lemmas.List.Sums.{sum_by-cons}, lemmas.List.Concat.{flat_map-append}}
use Rattle.std.specs.List.{flat_map, sum_by}
use Rattle.p25_status.specs.Sync.{has_sync}
use Rattle.p25_units.specs.{Items.{covered, place_of}, declared.item.Item.{Item}}
use Rattle.p25_units.proofs.{NeedsLaws.{need_of-few, need_of-there}, ItemsLaws.{covered-unit_item_of}}
use Rattle.p25_stream.specs.Arrivals.{Arrival, IsFound, IsHidden, IsUnitItem, whole_of}
use Rattle.p25_stream.specs.Items.{first_item, items_of}
use Rattle.p25_recording_filters.specs.ItemOutputs.{shown}
use Rattle.p25_show.specs.Unhidden.{AloneIsFound, FoundHasLine, IsUnhidden, UnhiddenIsFound}
use Rattle.p25_stream.proofs.{ArrivalLaws.{unit-found}, ItemLaws.{item-among, item-covers}, ItemsLaws.{first_item-cases}}

-- a first item that is a data unit begins at a sync, and has at most 25,920 bits
unit-synced : (at : ℕ) (bits : List Bool) (item : Item) → item ≡ first_item at bits → IsUnitItem item → (has_sync bits ≡ true) × (covered item ≤ 25920)
unit-synced at bits item is unit =
    first_item-cases (λ first. item ≡ first → (has_sync bits ≡ true) × (covered item ≤ 25920)) at bits
    (λ no' same. absurd (subst IsUnitItem same unit))
    (λ count yes' need same. (yes', omega (arith, ap covered same, need_of-few bits count need)))
    (λ count yes' need same. (yes', omega (arith, ap covered same, covered-unit_item_of at bits count need, need_of-there bits count need)))
    (λ field yes' need same. absurd (subst IsUnitItem same unit))
    is

-- two items of a list are one, if the first bit of the one lies in the other
same_item : (before before' : List Item) (item item' : Item) (after after' : List Item) → before ++ item ∷ after ≡ before' ++ item' ∷ after' → 0 < covered item
    → sum_by covered before' ≤ sum_by covered before → sum_by covered before < sum_by covered before' + covered item' → item ≡ item'
same_item [] [] item item' after after' same some low high = cc
same_item [] (x ∷ xs) item item' after after' same some low high =
    let first : item ≡ x = cc in
    absurd (omega (arith, ap covered first, sum_by-cons covered x xs))
same_item (x ∷ xs) [] item item' after after' same some low high =
    let first : x ≡ item' = cc in
    absurd (omega (arith, ap covered first, sum_by-cons covered x xs))
same_item (x ∷ xs) (y ∷ ys) item item' after after' same some low high =
    let first : x ≡ y = cc in
    let rest : xs ++ item ∷ after ≡ ys ++ item' ∷ after' = cc in
    same_item xs ys item item' after after' rest some (omega (arith, ap covered first, sum_by-cons covered x xs, sum_by-cons covered y ys))
    (omega (arith, ap covered first, sum_by-cons covered x xs, sum_by-cons covered y ys))

-- nothing hides a position before which each sync lies in a data unit that has ended
none_hidden : (at : ℕ) (bits rest : List Bool) → IsUnhidden at bits rest (items_of at (bits ++ rest)) → IsHidden (at + length bits) (items_of at (bits ++ rest)) → ⊥
none_hidden at bits rest unhidden hidden =
    let all = bits ++ rest in
    let offset = sum_by covered hidden.before in
    let there = item-among true at all hidden.before hidden.item hidden.after hidden.among in
    let place = item-covers true at all hidden.before hidden.item hidden.after hidden.among in
    let synced = unit-synced (at + offset) (drop offset all) hidden.item there.1 hidden.unit in
    let low : offset < length bits = omega (arith, place.1, hidden.begins) in
    let far : length bits ≤ offset + 25919 = omega (arith, place.1, hidden.covers, synced.1) in
    let inside = unhidden offset low far synced.0 in
    let other = item-covers true at all inside.before inside.item inside.after inside.among in
    let joined : hidden.before ++ hidden.item ∷ hidden.after ≡ inside.before ++ inside.item ∷ inside.after = cc (hidden.among, inside.among) in
    let from : sum_by covered inside.before ≤ offset = omega (arith, other.1, inside.begins) in
    let until : offset < sum_by covered inside.before + covered inside.item = omega (arith, other.1, inside.covers) in
    let same : hidden.item ≡ inside.item = same_item hidden.before inside.before hidden.item inside.item hidden.after inside.after joined place.0 from until in
    absurd (omega (arith, ap covered same, ap place_of same, hidden.covers, inside.ends))

left_found : (at place : ℕ) (arrival : Arrival) (more : List Bool) (items : List Item) → (IsHidden place items → ⊥) → IsHidden place items ⊎ IsFound at place arrival more items
    → IsFound at place arrival more items
left_found at place arrival more items none (inl hidden) = absurd (none hidden)
left_found at place arrival more items none (inr found) = found

pub unhidden-found : UnhiddenIsFound
unhidden-found at bits arrival more is unhidden =
    left_found at (at + length bits) arrival more _ (none_hidden at bits (arrival.bits ++ more) unhidden) (unit-found at bits arrival more is)

pub alone-found : AloneIsFound
alone-found at bits arrival more is none =
    unhidden-found at bits arrival more is (λ offset low far synced. absurd (true≢false (sym synced ∙ none offset low far)))

pub found-line : FoundHasLine
found-line at place arrival more items found =
    let after = items_of (place + length arrival.bits) more in
    (flat_map shown found.before, flat_map shown after, ap (flat_map shown) found.among ∙ flat_map-append shown found.before (whole_of place arrival ∷ after))
