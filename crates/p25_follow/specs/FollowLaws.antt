-- The laws of the output for a recording, over all bits, and that a follower gives it.
use Rattle.std.specs.Prelude.{◌≡◌, ℕ, ◌<◌, ◌≤◌, Bool, true, List, ◌++◌, length, take, drop, Option, Some, None}
use Rattle.p25_bits.specs.Bits.{part}
use Rattle.p25_unit_front.specs.Front.{identifier_of}
use Rattle.p25_units.specs.{Items.{covered}, declared.item.Item.{Item}}
use Rattle.p25_stream.specs.Items.{first_item, is_decided, items_of}
use Rattle.p25_follow.specs.{Chains.{chain_by, chain_of, settled_of, with_front}, Expected.{is_expected, kind_length}}
use Rattle.p25_follow.specs.{Followed.{follow_of, followed_by, has_no_stretch, unit_name}, Following.{IsFollow, Follow, left_of, written_by}, Steps.{step_of}}
use Rattle.p25_follow.specs.Told.{name_errors_of}

-- the output has as many bits as the input
abbrev pub LengthIsKept : Type 0
LengthIsKept = (bits : List Bool) → length (follow_of bits) ≡ length bits

-- a chain is the bits unchanged if no data unit is known, and otherwise the data unit with its sync and NID and the chain after it
abbrev pub ChainsUnfold : Type 0
ChainsUnfold =
    ((bits : List Bool) (end : Option (ℕ × ℕ)) → chain_of None bits end ≡ bits)
    × ((before : ℕ × ℕ) (bits : List Bool) (end : Option (ℕ × ℕ)) → step_of before bits end ≡ None → chain_of (Some before) bits end ≡ bits)
    × ((before : ℕ × ℕ) (bits : List Bool) (end : Option (ℕ × ℕ)) (kind : ℕ) → step_of before bits end ≡ Some kind
    → chain_of (Some before) bits end
    ≡ with_front (before.0, kind) (take (kind_length kind) bits) ++ chain_of (Some (before.0, kind)) (drop (kind_length kind) bits) end)

-- the bits of the data unit of a step are there
abbrev pub StepIsThere : Type 0
StepIsThere =
    (before : ℕ × ℕ) (bits : List Bool) (end : Option (ℕ × ℕ)) (kind : ℕ) → step_of before bits end ≡ Some kind
    → (144 ≤ kind_length kind) × (kind_length kind ≤ length bits)

-- a step examines at most 6,912 bits: neither those after them nor the end change it
abbrev pub StepLooksAtFew : Type 0
StepLooksAtFew =
    (before : ℕ × ℕ) (bits more : List Bool) (end other : Option (ℕ × ℕ)) → 6912 ≤ length bits → step_of before (bits ++ more) end ≡ step_of before bits other

-- a correctable NID is not replaced by another
abbrev pub NameStays : Type 0
NameStays =
    (before : ℕ × ℕ) (bits : List Bool) (end : Option (ℕ × ℕ)) (kind : ℕ) (name : ℕ × ℕ)
    → step_of before bits end ≡ Some kind → identifier_of bits ≡ Some name → name ≡ (before.0, kind)

-- if bits of a data unit follow one of its network, it is of a type that may follow, and at most 11 bits of its NID are wrong, its sync and NID are
-- written, whatever its sync is
abbrev pub NearIsWritten : Type 0
NearIsWritten =
    (nac before kind : ℕ) (bits : List Bool) (end : Option (ℕ × ℕ)) → nac < 4096 → kind < 16 → is_expected before kind ≡ true → kind_length kind ≤ length bits
    → name_errors_of (nac, kind) bits ≤ 11
    → chain_of (Some (nac, before)) bits end
    ≡ with_front (nac, kind) (take (kind_length kind) bits) ++ chain_of (Some (nac, kind)) (drop (kind_length kind) bits) end

-- the decided output for bits comes first, whatever bits come after them, and the output for the remaining bits follows it
abbrev pub SettledStays : Type 0
SettledStays =
    (ended : Bool) (before : Option (ℕ × ℕ)) (bits more : List Bool) (end : Option (ℕ × ℕ))
    → chain_by ended before (bits ++ more) end
    ≡ settled_of before bits ++ chain_by ended (left_of before bits).before ((left_of before bits).stretch ++ more) end

-- the output of a follower for items that lie end to end over some bits is the output for those bits after the state that it keeps
abbrev pub FollowerWrites : Type 0
FollowerWrites =
    (ended : Bool) (kept : Follow) (items : List Item) (bits : List Bool) → IsFollow kept
    → written_by ended kept items bits ≡ followed_by ended kept.before kept.stretch items bits

-- if sync and NID of a voice data unit are written at the beginning of an item, that item is a data unit of this name, whole or broken, whatever bits
-- follow; it covers exactly its bits, and is decided
abbrev pub WrittenIsFound : Type 0
WrittenIsFound =
    (place nac kind : ℕ) (bits more : List Bool) → nac < 4096 → 144 ≤ kind_length kind → kind < 16 → length bits ≡ kind_length kind
    → (unit_name (first_item place (with_front (nac, kind) bits ++ more)) ≡ Some (nac, kind))
    × (covered (first_item place (with_front (nac, kind) bits ++ more)) ≡ kind_length kind)
    × (is_decided (with_front (nac, kind) bits ++ more) ≡ true)

-- in a data unit whose sync and NID are written, the status symbol within them and all bits after them stay
abbrev pub FrontAlone : Type 0
FrontAlone =
    (name : ℕ × ℕ) (bits : List Bool) → 114 ≤ length bits
    → (part 70 2 (with_front name bits) ≡ part 70 2 bits) × (drop 114 (with_front name bits) ≡ drop 114 bits)

-- if no stretch follows a data unit, all bits are unchanged
abbrev pub NoStretchNoChange : Type 0
NoStretchNoChange = (bits : List Bool) → has_no_stretch None (items_of 0 bits) ≡ true → follow_of bits ≡ bits
