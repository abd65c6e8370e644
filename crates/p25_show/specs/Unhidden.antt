-- When a correctable data unit has its line: a condition that the recording and the lines decide.
use Rattle.std.specs.Prelude.{◌≡◌, ℕ, ◌+◌, ◌<◌, ◌≤◌, Bool, true, false, List, ◌∷◌, ◌++◌, length, drop}
use Rattle.std.specs.List.{flat_map}
use Rattle.p25_status.specs.Sync.{has_sync}
use Rattle.p25_units.specs.{Items.{covered, place_of}, declared.item.Item.{Item}}
use Rattle.p25_stream.specs.{Arrivals.{Arrival, IsFound, IsNearArrival, IsUnitItem, whole_of}, Items.{items_of}}
use Rattle.p25_recording_filters.specs.ItemOutputs.{shown}

-- a position lies in a unit among some items, whole, broken or cut, that ends at another position or before it
pub record IsInsideUnit (place end : ℕ) (items : List Item) : Type 0 where
  pub before : List Item
  pub item : Item
  pub after : List Item
  pub among : items ≡ before ++ item ∷ after
  pub unit : IsUnitItem item
  pub begins : place_of item ≤ place
  pub covers : place < place_of item + covered item
  pub ends : place_of item + covered item ≤ end

-- each sync that begins in the last 25,919 of some bits, with the rest after them, lies in a unit among the items that ends before these
-- bits do, or with them
abbrev pub IsUnhidden : ℕ → List Bool → List Bool → List Item → Type 0
IsUnhidden at bits rest items =
    (offset : ℕ) → offset < length bits → length bits ≤ offset + 25919 → has_sync (drop offset (bits ++ rest)) ≡ true
    → IsInsideUnit (at + offset) (at + length bits) items

-- a correctable unit is found, whole and as received, if each sync in the 25,919 bits before it lies in a unit that has a line and ends
-- before it
abbrev pub UnhiddenIsFound : Type 0
UnhiddenIsFound =
    (at : ℕ) (bits : List Bool) (arrival : Arrival) (more : List Bool) → IsNearArrival arrival
    → IsUnhidden at bits (arrival.bits ++ more) (items_of at (bits ++ (arrival.bits ++ more)))
    → IsFound at (at + length bits) arrival more (items_of at (bits ++ (arrival.bits ++ more)))

-- so it is, if no sync begins in those bits
abbrev pub AloneIsFound : Type 0
AloneIsFound =
    (at : ℕ) (bits : List Bool) (arrival : Arrival) (more : List Bool) → IsNearArrival arrival
    → ((offset : ℕ) → offset < length bits → length bits ≤ offset + 25919 → has_sync (drop offset (bits ++ (arrival.bits ++ more))) ≡ false)
    → IsFound at (at + length bits) arrival more (items_of at (bits ++ (arrival.bits ++ more)))

-- a unit that is found among some items has its line among theirs
abbrev pub FoundHasLine : Type 0
FoundHasLine =
    (at place : ℕ) (arrival : Arrival) (more : List Bool) (items : List Item) → IsFound at place arrival more items
    → (before : List ℕ) × (after : List ℕ) × (flat_map shown items ≡ before ++ (shown (whole_of place arrival) ++ after))
