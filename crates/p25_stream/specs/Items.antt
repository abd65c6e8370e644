-- The items of a stream of bits.
use Rattle.std.specs.Prelude.{ℕ, zero, suc, ◌+◌, Bool, true, false, ◌||◌, if◌then◌else◌, min, nat_le, List, [], ◌∷◌, length, take, drop}
use Rattle.p25_status.specs.{Sync.{has_sync}, declared.fields.Field.TheVariants.{Sync}}
use Rattle.p25_units.specs.{Items.{covered, unit_item_of}, Needs.{is_known, need_of}, declared.needs.Need.{Need}}
use Rattle.p25_units.specs.{declared.needs.Need.TheVariants.{NoSync, More, Length, NoLength}, declared.item.Item.{Item}}
use Rattle.p25_units.specs.declared.item.Item.TheVariants.{NoUnit, Gap, Cut}

-- the least position with a sync, or the number of bits if there is none
unfoldable pub sync_place : List Bool → ℕ
sync_place [] = 0
sync_place (bit ∷ bits) = if has_sync (bit ∷ bits) then 0 else suc (sync_place bits)

-- the item at a position with a sync, by the need there
abbrev pub synced_item : ℕ → List Bool → Need → Item
synced_item at bits NoSync = NoUnit at Sync
synced_item at bits (More count) = Cut at (length bits)
synced_item at bits (Length count) = unit_item_of at (take count bits)
synced_item at bits (NoLength field) = NoUnit at field

-- the number of bits of the gap with which bits without a sync at their first position begin: those up to the next sync, at most 4,096
abbrev pub gap_of : List Bool → ℕ
gap_of bits = min (sync_place bits) 4096

-- the first item of some bits: the item at a sync, or a gap
unfoldable pub first_item : ℕ → List Bool → Item
first_item at bits = if has_sync bits then synced_item at bits (need_of bits) else Gap at (gap_of bits)

-- a gap of a number of bits is known once the 48 bits from each of its positions are there and, if it is shorter than 4,096, those from the position
-- after it too
abbrev pub gap_known : ℕ → ℕ → Bool
gap_known count have = nat_le (min (count + 48) (4096 + 47)) have

-- the bits are there that decide the first item; then it is the first whatever bits come after them
unfoldable pub is_decided : List Bool → Bool
is_decided bits = if has_sync bits then is_known (need_of bits) else gap_known (gap_of bits) (length bits)

-- the items of some bits, at most a given number: all if the stream has ended, otherwise those before the first that is not decided
unfoldable pub items_in : ℕ → Bool → ℕ → List Bool → List Item
items_in zero ended at bits = []
items_in (suc turns) ended at [] = []
items_in (suc turns) ended at (bit ∷ bits) =
    let item = first_item at (bit ∷ bits) in
    if ended || is_decided (bit ∷ bits) then item ∷ items_in turns ended (at + covered item) (drop (covered item) (bit ∷ bits)) else []

-- the items of a stream that has ended or not, with these bits; positions count from `at`
unfoldable pub items_by : Bool → ℕ → List Bool → List Item
items_by ended at bits = items_in (length bits) ended at bits

-- the items of some bits that no others follow
abbrev pub items_of : ℕ → List Bool → List Item
items_of = items_by true

-- the items that some bits decide: those before the first that is not decided yet; they stay whatever bits come later
abbrev pub decided_of : ℕ → List Bool → List Item
decided_of = items_by false
