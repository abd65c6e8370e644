-- A recording with sync and NID written for the data units that lie end to end after others.
use Rattle.std.specs.{Prelude.{ℕ, Bool, true, false, ◌&&◌, if◌then◌else◌, List, [], ◌∷◌, ◌++◌, take, drop, Option, Some, None}, Option.{is_none}}
use Rattle.p25_units.specs.{Items.{covered}, Units.{body_duid}, declared.item.Item.{Item}, declared.item.Item.TheVariants.{Whole, Broken, NoUnit, Gap}}
use Rattle.p25_stream.specs.Items.{items_of}
use Rattle.p25_follow.specs.Chains.{chain_by}

-- the name of a data unit, whole or broken
abbrev pub unit_name : Item → Option (ℕ × ℕ)
unit_name (Whole place frame fixes) = Some (frame.unit.nac, body_duid frame.unit.body)
unit_name (Broken place count nac duid fields) = Some (nac, duid)
unit_name item = None

-- an item belongs to a stretch: it is not a data unit
abbrev pub is_rest : Item → Bool
is_rest (NoUnit place field) = true
is_rest (Gap place count) = true
is_rest item = false

-- the output for a stretch that has begun, after a data unit with a name or after none, and for the items after it, which lie end to end over some
-- bits: data units, and the bits of a data unit that is cut, unchanged, and each stretch by its chain
unfoldable pub followed_by : Bool → Option (ℕ × ℕ) → List Bool → List Item → List Bool → List Bool
followed_by ended before stretch [] bits = chain_by ended before stretch None
followed_by ended before stretch (item ∷ items) bits =
    let raw = take (covered item) bits in
    let rest = drop (covered item) bits in
    if is_rest item
    then followed_by ended before (stretch ++ raw) items rest
    else chain_by true before stretch (unit_name item) ++ (raw ++ followed_by ended (unit_name item) [] items rest)

-- the output for a recording
unfoldable pub follow_of : List Bool → List Bool
follow_of bits = followed_by true None [] (items_of 0 bits) bits

-- no stretch follows a data unit: each is followed by a data unit, the bits of one that is cut, or the end
unfoldable pub has_no_stretch : Option (ℕ × ℕ) → List Item → Bool
has_no_stretch before [] = true
has_no_stretch before (item ∷ items) = if is_rest item then is_none before && has_no_stretch before items else has_no_stretch (unit_name item) items
