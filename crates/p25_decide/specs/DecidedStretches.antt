-- A recording decided, stretch by stretch: each unit that the scan finds in the bits as they came, and each whose sync and NID are restored.
use Rattle.std.specs.Prelude.{ℕ, ◌+◌, ◌-◌, if◌then◌else◌, Bool, List, [], ◌∷◌, ◌++◌, length, take, drop, Option, None}
use Rattle.p25_units.specs.{Items.{covered, place_of}, declared.item.Item.{Item}}
use Rattle.p25_follow.specs.{Chains.{chain_of}, Followed.{is_rest, unit_name}, FollowedUnits.{written_units}}

-- bits that start at a position, with the bits of some of their units, which lie one after the other in them, changed
unfoldable pub over_units : (Item → List Bool → List Bool) → ℕ → List Item → List Bool → List Bool
over_units change at [] bits = bits
over_units change at (unit ∷ units) bits =
    let rest = drop (place_of unit - at) bits in
    take (place_of unit - at) bits
    ++ (change unit (take (covered unit) rest) ++ over_units change (place_of unit + covered unit) units (drop (covered unit) rest))

-- the chain of a stretch that starts at a position, after a unit with a name or after none, and reaches to an end, with each unit changed
unfoldable pub chain_over : (Item → List Bool → List Bool) → ℕ → Option (ℕ × ℕ) → List Bool → Option (ℕ × ℕ) → List Bool
chain_over change at before stretch end = over_units change at (written_units at before stretch end) (chain_of before stretch end)

-- a stretch that starts at a position, and the items after it, which lie end to end over some bits: each stretch as its chain, and each unit,
-- and a unit that is cut, by itself
unfoldable pub stretches_over : (Item → List Bool → List Bool) → ℕ → Option (ℕ × ℕ) → List Bool → List Item → List Bool → List Bool
stretches_over change at before stretch [] bits = chain_over change at before stretch None
stretches_over change at before stretch (item ∷ items) bits =
    let raw = take (covered item) bits in
    let rest = drop (covered item) bits in
    if is_rest item
    then stretches_over change at before (stretch ++ raw) items rest
    else chain_over change at before stretch (unit_name item)
    ++ (change item raw ++ stretches_over change (at + length stretch + covered item) (unit_name item) [] items rest)
