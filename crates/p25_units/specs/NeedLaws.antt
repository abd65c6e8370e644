-- All laws of data units that a scanner needs: laws of the needs at a position with a sync, and of the item of a data unit.
use Rattle.std.specs.Prelude.{◌≡◌, ℕ, ◌%◌, ◌<◌, ◌≤◌, Bool, true, List, ◌++◌, length, take}
use Rattle.p25_status.specs.Sync.{has_sync}
use Rattle.p25_units.specs.{Begins.{IsBegun}, Items.{IsSoundItem, covered, place_of, unit_item_of}, Needs.{is_known, need_of}, declared.begun.Begun.{Begun}}
use Rattle.p25_units.specs.{declared.needs.Need.TheVariants.{NoSync, More, Length}, declared.item.Item.TheVariants.{Gap}}

-- a position with a sync has one
abbrev pub SyncIsSeen : Type 0
SyncIsSeen = (bits : List Bool) → has_sync bits ≡ true → need_of bits ≡ NoSync → ⊥

-- known facts stay, whatever bits come later
abbrev pub KnownStays : Type 0
KnownStays = (bits more : List Bool) → has_sync bits ≡ true → is_known (need_of bits) ≡ true → need_of (bits ++ more) ≡ need_of bits

-- a number of required bits stays the same until it is reached
abbrev pub MoreWaits : Type 0
MoreWaits =
    (bits more : List Bool) (count : ℕ) → has_sync bits ≡ true → need_of bits ≡ More count → length (bits ++ more) < count
    → need_of (bits ++ more) ≡ More count

-- more bits are required only if fewer are there, and never more than the longest data unit has
abbrev pub MoreIsFew : Type 0
MoreIsFew = (bits : List Bool) (count : ℕ) → need_of bits ≡ More count → (length bits < count) × (count ≤ 25920)

-- the bits of a data unit are there; they are whole octets, at least one, and at most those of the longest data unit
abbrev pub LengthIsThere : Type 0
LengthIsThere = (bits : List Bool) (count : ℕ) → need_of bits ≡ Length count → (72 < count) × (count ≤ 25920) × (count % 72 ≡ 0) × (count ≤ length bits)

-- the item of a data unit begins at its position, covers its bits, is sound, and is no gap
abbrev pub ItemCovers : Type 0
ItemCovers = (place : ℕ) (bits : List Bool) (count : ℕ) → need_of bits ≡ Length count → covered (unit_item_of place (take count bits)) ≡ count

abbrev pub ItemHasPlace : Type 0
ItemHasPlace = (place : ℕ) (sent : List Bool) → place_of (unit_item_of place sent) ≡ place

abbrev pub ItemIsSound : Type 0
ItemIsSound = (place : ℕ) (bits : List Bool) (count : ℕ) → need_of bits ≡ Length count → IsSoundItem (unit_item_of place (take count bits))

abbrev pub ItemIsNoGap : Type 0
ItemIsNoGap = (place : ℕ) (sent : List Bool) (gap_place count : ℕ) → unit_item_of place sent ≡ Gap gap_place count → ⊥

-- the decoded parts of a data unit stay true, whatever bits come later
abbrev pub BegunStays : Type 0
BegunStays = (begun : Begun) (bits more : List Bool) → IsBegun begun bits → IsBegun begun (bits ++ more)
