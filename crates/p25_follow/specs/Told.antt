-- Detection of a data unit by its sync and NID, after another data unit.
use Rattle.std.specs.Prelude.{ℕ, ◌+◌, Bool, true, false, ◌&&◌, if◌then◌else◌, ◌==◌, nat_le, nat_lt, List, [], ◌∷◌, length, take, Option, Some, None}
use Rattle.p25_bits.specs.Distance.{distance_of}
use Rattle.p25_bch_nid.specs.NidWord.{nid_word}
use Rattle.p25_status.specs.Sync.{sync_bits}
use Rattle.p25_unit_front.specs.Front.{identifier_bits, identifier_of}
use Rattle.p25_follow.specs.{declared.told.Told.{Told}, declared.told.Told.TheVariants.{Expected, Other, Nothing}, Expected.{expected_after, is_expected}}

-- the number of bit errors in the 48 bits of a sync
unfoldable pub sync_errors_of : List Bool → ℕ
sync_errors_of bits = distance_of (take 48 bits) sync_bits

-- the number of the first 63 bits of their network identifier (NID) that differ from those transmitted for a name
unfoldable pub name_errors_of : ℕ × ℕ → List Bool → ℕ
name_errors_of name bits = distance_of (take 63 (identifier_bits bits)) (take 63 (nid_word name.0 name.1))

-- the nearer of two types: the second only if its codeword differs in fewer bits
unfoldable pub nearer_kind : ℕ → List Bool → ℕ → ℕ → ℕ
nearer_kind nac bits kind next = if nat_lt (name_errors_of (nac, next) bits) (name_errors_of (nac, kind) bits) then next else kind

-- the nearest of a type and some others: the first of those whose codewords differ in the fewest bits
unfoldable pub nearest_kind : ℕ → List Bool → ℕ → List ℕ → ℕ
nearest_kind nac bits kind [] = kind
nearest_kind nac bits kind (next ∷ kinds) = nearest_kind nac bits (nearer_kind nac bits kind next) kinds

-- a type is detected by a near sync and NID: at most 16 bits of the NID are wrong, and with those of the sync at most 30
unfoldable pub told_near : ℕ → List Bool → ℕ → Told
told_near nac bits kind =
    if nat_le (name_errors_of (nac, kind) bits) 16 && nat_le (sync_errors_of bits + name_errors_of (nac, kind) bits) 30 then Expected kind else Nothing

-- the detection for an uncorrectable NID, by the nearest of the expected types
unfoldable pub told_nearest : ℕ → List Bool → List ℕ → Told
told_nearest nac bits [] = Nothing
told_nearest nac bits (kind ∷ kinds) = told_near nac bits (nearest_kind nac bits kind kinds)

-- the detection by a correctable NID
unfoldable pub told_name : ℕ × ℕ → ℕ × ℕ → Told
told_name before name = if before.0 == name.0 && is_expected before.1 name.1 then Expected name.1 else Other

unfoldable pub told_by : ℕ × ℕ → List Bool → Option (ℕ × ℕ) → Told
told_by before bits None = told_nearest before.0 bits (expected_after before.1)
told_by before bits (Some name) = told_name before name

-- the detection for some bits after a data unit with a name, by the first 114 of them, with sync and NID of a data unit there: by its NID if that is
-- correctable, and otherwise by sync and NID; nothing if there are fewer
unfoldable pub told_of : ℕ × ℕ → List Bool → Told
told_of before bits = if nat_lt (length bits) 114 then Nothing else told_by before (take 114 bits) (identifier_of (take 114 bits))

abbrev pub is_nothing : Told → Bool
is_nothing Nothing = true
is_nothing told = false
