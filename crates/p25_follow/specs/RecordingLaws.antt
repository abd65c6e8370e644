-- The laws of the output for a whole recording.
use Rattle.std.specs.Prelude.{◌≡◌, ℕ, ◌+◌, ◌<◌, ◌≤◌, ◌⊎◌, Bool, true, false, List, [], ◌∷◌, ◌++◌, drop, Some, None}
use Rattle.p25_bits.specs.Bits.{part}
use Rattle.p25_units.specs.{Items.{covered}, declared.item.Item.{Item}}
use Rattle.p25_stream.specs.Items.{items_of}
use Rattle.p25_follow.specs.{Chains.{chain_of, with_front}, Expected.{is_expected, kind_length}, Followed.{follow_of, is_rest, unit_name}}
use Rattle.p25_follow.specs.FollowedUnits.{IsFrontBit, IsInStretch, IsMerged, IsWrittenUpTo, end_name, fronts_by, units_by}
use Rattle.p25_follow.specs.{Repaired.{AreFoundAgain, repair_of}, StretchLaws.{all_rest, begins_rest, bits_in, units_among}, Told.{name_errors_of}}

-- the data units that the scan finds in the output, a data unit that is cut among them, are those that it finds in the recording, the same item for
-- item and at the same positions, and one more for each sync and NID written
abbrev pub NeverWorse : Type 0
NeverWorse =
    (bits : List Bool)
    → (units_among (items_of 0 (follow_of bits)) ≡ units_by 0 None [] (items_of 0 bits) bits)
    × IsMerged (units_among (items_of 0 bits)) (fronts_by 0 None [] (items_of 0 bits) bits) (units_by 0 None [] (items_of 0 bits) bits)

-- the output for the output is the same
abbrev pub SecondChangesNothing : Type 0
SecondChangesNothing = (bits : List Bool) → follow_of (follow_of bits) ≡ follow_of bits

-- if the output differs from the recording at a position, that is a bit of sync or NID of a data unit for which they are written, in a stretch
abbrev pub FrontBitsAlone : Type 0
FrontBitsAlone =
    (bits : List Bool) (place : ℕ)
    → (part place 1 (follow_of bits) ≡ part place 1 bits)
    ⊎ (IsFrontBit place (fronts_by 0 None [] (items_of 0 bits) bits) × IsInStretch place 0 (items_of 0 bits))

-- in the output for a recording the bits of each data unit, and of one that is cut, are unchanged, and those of a stretch after it are its chain,
-- which reaches to the data unit after it, or to the end
abbrev pub StretchByStretch : Type 0
StretchByStretch =
    (bits : List Bool) (first : List Item) (unit : Item) (stretch after : List Item)
    → items_of 0 bits ≡ first ++ (unit ∷ (stretch ++ after)) → is_rest unit ≡ false → all_rest stretch ≡ true → begins_rest after ≡ false
    → (part (bits_in first) (covered unit) (follow_of bits) ≡ part (bits_in first) (covered unit) bits)
    × (part (bits_in first + covered unit) (bits_in stretch) (follow_of bits)
    ≡ chain_of (unit_name unit) (part (bits_in first + covered unit) (bits_in stretch) bits) (end_name after))

-- in a stretch of a recording, directly after the data unit before it or one whose sync and NID are written, a data unit of its network, of a type
-- that may follow, with at most 11 bit errors in its NID, is output with its sync and NID, whatever its sync is
abbrev pub CompleteInStretches : Type 0
CompleteInStretches =
    (bits : List Bool) (first : List Item) (unit : Item) (stretch after : List Item)
    → items_of 0 bits ≡ first ++ (unit ∷ (stretch ++ after)) → is_rest unit ≡ false → all_rest stretch ≡ true → begins_rest after ≡ false
    → (kinds : List ℕ) (name : ℕ × ℕ) (place nac last kind : ℕ) → unit_name unit ≡ Some name
    → IsWrittenUpTo kinds name (part (bits_in first + covered unit) (bits_in stretch) bits) (end_name after) place (nac, last)
    → nac < 4096 → is_expected last kind ≡ true → place + kind_length kind ≤ bits_in stretch
    → name_errors_of (nac, kind) (drop place (part (bits_in first + covered unit) (bits_in stretch) bits)) ≤ 11
    → part (bits_in first + covered unit + place) (kind_length kind) (follow_of bits)
    ≡ with_front (nac, kind) (part (bits_in first + covered unit + place) (kind_length kind) bits)

-- if the scan finds the same items in a repaired recording, a repair before gives the same as one after alone
abbrev pub RepairBefore : Type 0
RepairBefore =
    (bits : List Bool) → AreFoundAgain (items_of 0 bits) (items_of 0 (repair_of bits)) → repair_of (follow_of (repair_of bits)) ≡ repair_of (follow_of bits)
