-- The laws of a recording that is forwarded in place.
use Rattle.std.specs.Prelude.{◌≡◌, ℕ, ◌+◌, ◌<◌, ◌⊎◌, Bool, true, List, ◌∷◌, ◌++◌, length, take, drop, map, Some}
use Rattle.p25_bits.specs.Bits.{part}
use Rattle.p25_status.specs.declared.symbols.Status.{Status}
use Rattle.p25_units.specs.{Items.{covered}, declared.item.Item.{Item}}
use Rattle.p25_stream.specs.{Arrivals.{IsHidden}, Items.{first_item, items_by, items_of}}
use Rattle.p25_follow.specs.{Followed.{is_rest, unit_name}, Relayed.{IsAmong, IsFitItem, relay_of, relayed, relayed_item}, StretchLaws.{bits_in, units_among}}

-- each item that a scan finds has as many bits as its type needs
abbrev pub ItemsFit : Type 0
ItemsFit =
    (ended : Bool) (at : ℕ) (bits : List Bool) (before : List Item) (item : Item) (after : List Item)
    → items_by ended at bits ≡ before ++ item ∷ after → IsFitItem item

-- the output has as many bits as the input
abbrev pub RelayKeepsLength : Type 0
RelayKeepsLength = (nac : ℕ) (status : Status) (bits : List Bool) → nac < 4096 → length (relay_of nac status bits) ≡ length bits

-- the output for each item is at its position: so all bits of a stretch, and of a data unit that is cut, stay
abbrev pub RelaysInPlace : Type 0
RelaysInPlace =
    (nac : ℕ) (status : Status) (bits : List Bool) (before : List Item) (item : Item) (after : List Item)
    → nac < 4096 → items_of 0 bits ≡ before ++ item ∷ after
    → part (bits_in before) (covered item) (relay_of nac status bits) ≡ relayed nac status item (part (bits_in before) (covered item) bits)

-- the scan finds each data unit again in its output, whatever bits follow: with its type, under the NAC, a whole one with its fields and no fixes,
-- and a broken one with the same failing fields
abbrev pub RelayedIsFound : Type 0
RelayedIsFound =
    (nac : ℕ) (status : Status) (place : ℕ) (bits more : List Bool) (name : ℕ × ℕ)
    → nac < 4096 → unit_name (first_item place bits) ≡ Some name
    → first_item place (relayed nac status (first_item place bits) (take (covered (first_item place bits)) bits) ++ more)
    ≡ relayed_item nac status (first_item place bits)

-- each data unit of a recording is found again in the output, at its position, unless a data unit that begins before it there, whole, broken or cut,
-- covers its first bit
abbrev pub RelayKeepsUnits : Type 0
RelayKeepsUnits =
    (nac : ℕ) (status : Status) (bits : List Bool) (before : List Item) (unit : Item) (after : List Item) (name : ℕ × ℕ)
    → nac < 4096 → items_of 0 bits ≡ before ++ unit ∷ after → unit_name unit ≡ Some name
    → IsHidden (bits_in before) (items_of 0 (relay_of nac status bits)) ⊎ IsAmong (relayed_item nac status unit) (items_of 0 (relay_of nac status bits))

-- nothing begins in the output for a stretch: at none of its positions does the scan find a data unit, whole, broken or cut
abbrev pub NothingBeginsInStretches : ℕ → Status → List Bool → Type 0
NothingBeginsInStretches nac status bits =
    (before : List Item) (item : Item) (after : List Item) (place : ℕ)
    → items_of 0 bits ≡ before ++ item ∷ after → is_rest item ≡ true → place < covered item
    → is_rest (first_item (bits_in before + place) (drop (bits_in before + place) (relay_of nac status bits))) ≡ true

-- in that case the data units of the output are those of the recording, one by one, and a data unit that is cut is unchanged
abbrev pub RelaySameUnits : Type 0
RelaySameUnits =
    (nac : ℕ) (status : Status) (bits : List Bool) → nac < 4096 → NothingBeginsInStretches nac status bits
    → units_among (items_of 0 (relay_of nac status bits)) ≡ map (relayed_item nac status) (units_among (items_of 0 bits))
