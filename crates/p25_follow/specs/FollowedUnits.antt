-- The data units of a recording with sync and NID written: those that the scan finds in it, and those whose sync and NID are written.
use Rattle.std.specs.Prelude.{◌≡◌, ℕ, zero, suc, ◌+◌, ◌-◌, ◌<◌, ◌≤◌, ◌⊎◌, true, if◌then◌else◌, List, [], ◌∷◌, ◌++◌, Bool, length, take, drop, Option, Some, None}
use Rattle.p25_units.specs.{Items.{covered, place_of, unit_item_of}, declared.item.Item.{Item}}
use Rattle.p25_follow.specs.{Chains.{with_front}, Expected.{kind_length}, Followed.{is_rest, unit_name}, Steps.{step_of}}

-- the data unit of a type with which bits begin at a position, as the decoding of its bits with sync and NID written, and the data units after it;
-- none if none begins
unfoldable pub units_step : (ℕ → ℕ × ℕ → List Bool → List Item) → ℕ → ℕ × ℕ → List Bool → Option ℕ → List Item
units_step rest at before bits None = []
units_step rest at before bits (Some kind) =
    unit_item_of at (with_front (before.0, kind) (take (kind_length kind) bits)) ∷ rest (at + kind_length kind) (before.0, kind) (drop (kind_length kind) bits)

-- the data units whose sync and NID are written in bits that begin at a position, after a data unit with a name, in at most a given number of steps
unfoldable pub written_units_in : ℕ → ℕ → Option (ℕ × ℕ) → List Bool → Option (ℕ × ℕ) → List Item
written_units_in zero at before bits end = []
written_units_in (suc turns) at None bits end = []
written_units_in (suc turns) at (Some before) bits end =
    units_step (λ place name left. written_units_in turns place (Some name) left end) at before bits (step_of before bits end)

-- the data units whose sync and NID are written in bits that begin at a position, after a data unit with a name, or none, and reach to an end
unfoldable pub written_units : ℕ → Option (ℕ × ℕ) → List Bool → Option (ℕ × ℕ) → List Item
written_units at before bits end = written_units_in (length bits) at before bits end

-- the data units of a stretch that begins at a position, after a data unit with a name or after none, and of the items after it, which lie end to end
-- over some bits: each data unit, and one that is cut, unchanged, and before it those whose sync and NID are written
unfoldable pub units_by : ℕ → Option (ℕ × ℕ) → List Bool → List Item → List Bool → List Item
units_by at before stretch [] bits = written_units at before stretch None
units_by at before stretch (item ∷ items) bits =
    let raw = take (covered item) bits in
    let rest = drop (covered item) bits in
    if is_rest item
    then units_by at before (stretch ++ raw) items rest
    else written_units at before stretch (unit_name item) ++ (item ∷ units_by (at + length stretch + covered item) (unit_name item) [] items rest)

-- some items are those of two lists, one between the other, each in its order
unfoldable pub IsMerged : List Item → List Item → List Item → Type 0
IsMerged first second [] = (first ≡ []) × (second ≡ [])
IsMerged first second (item ∷ items) =
    ((rest : List Item) × (first ≡ item ∷ rest) × IsMerged rest second items)
    ⊎ ((rest : List Item) × (second ≡ item ∷ rest) × IsMerged first rest items)

-- of these only the data units whose sync and NID are written
unfoldable pub fronts_by : ℕ → Option (ℕ × ℕ) → List Bool → List Item → List Bool → List Item
fronts_by at before stretch [] bits = written_units at before stretch None
fronts_by at before stretch (item ∷ items) bits =
    let raw = take (covered item) bits in
    let rest = drop (covered item) bits in
    if is_rest item
    then fronts_by at before (stretch ++ raw) items rest
    else written_units at before stretch (unit_name item) ++ fronts_by (at + length stretch + covered item) (unit_name item) [] items rest

-- a position is that of a bit of sync or NID of one of some data units: of the 70 before the status symbol within them, or of the 42 after it
unfoldable pub IsFrontBit : ℕ → List Item → Type 0
IsFrontBit place [] = ⊥
IsFrontBit place (unit ∷ units) =
    ((place_of unit ≤ place) × ((place < place_of unit + 70) ⊎ ((place_of unit + 72 ≤ place) × (place < place_of unit + 114))))
    ⊎ IsFrontBit place units

-- a position is that of a bit of a stretch, among items that lie end to end from a position on
unfoldable pub IsInStretch : ℕ → ℕ → List Item → Type 0
IsInStretch place at [] = ⊥
IsInStretch place at (item ∷ items) =
    ((is_rest item ≡ true) × (at ≤ place) × (place < at + covered item)) ⊎ IsInStretch place (at + covered item) items

-- the name of the data unit with which some items begin, or none
abbrev pub end_name : List Item → Option (ℕ × ℕ)
end_name [] = None
end_name (item ∷ items) = unit_name item

-- from the beginning of bits up to a position, after a data unit with a name, there are data units of these types whose sync and NID are written, end
-- to end, and the last data unit before the position, one of them or the one before the bits, has this name
unfoldable pub IsWrittenUpTo : List ℕ → ℕ × ℕ → List Bool → Option (ℕ × ℕ) → ℕ → ℕ × ℕ → Type 0
IsWrittenUpTo [] before bits end place name = (place ≡ 0) × (before ≡ name)
IsWrittenUpTo (kind ∷ kinds) before bits end place name =
    (step_of before bits end ≡ Some kind)
    × (kind_length kind ≤ place)
    × IsWrittenUpTo kinds (before.0, kind) (drop (kind_length kind) bits) end (place - kind_length kind) name
