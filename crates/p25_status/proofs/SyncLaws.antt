-- The frame sync and its distance as the weight of an exclusive or, and when bits begin with a sync. The laws of `has_sync` follow from its two
-- tests.
use Rattle.std.proofs.Common.{◌≡◌, ℕ, ◌<◌, ◌≤◌, ◌&&◌, Bool, true, false, nat_le, List, ◌++◌, length, length-append, take, drop, bit_xor, refl, ap, ap₂, sym, ◌∙◌, arith}
use Rattle.std.proofs.{lemmas.Bool.{and_parts, and_from, and_left, and_right, le-leb, leb-true, lt-leb}, lemmas.List.{take-append-le, take-append-drop, length-take}}
use Rattle.std.specs.Int.RustNames.{count_ones}
use Rattle.p25_bits.specs.{Bits.{bits_of, field_of}, Distance.{distance_of}}
use Rattle.p25_bits.proofs.{BitsLaws.{length-bits_of, field_of-bits_of}, DistanceLaws.{ones-xor}}
use Rattle.p25_status.specs.Sync.{sync_bits, sync_slack, has_sync}

pub length-sync_bits : length sync_bits ≡ 48
unfolding sync_bits
length-sync_bits = length-bits_of 48 0x5575_F5FF_77FF

-- the bits that a writer appends are the sync
pub sync_bits-is : bits_of 48 0x5575_F5FF_77FF ≡ sync_bits
unfolding sync_bits
sync_bits-is = refl

pub field_of-sync_bits : field_of sync_bits ≡ 0x5575_F5FF_77FF
unfolding sync_bits
field_of-sync_bits = field_of-bits_of 48 0x5575_F5FF_77FF

-- the weight of the exclusive or of 48 bits' number and the sync's is their distance
pub sync_distance-is : (bits : List Bool) (n : ℕ) → length bits ≡ 48 → n ≡ field_of bits → count_ones (bit_xor n 0x5575_F5FF_77FF) ≡ distance_of bits sync_bits
sync_distance-is bits n long is = ap₂ (λ a b. count_ones (bit_xor a b)) is (sym field_of-sync_bits) ∙ ones-xor bits sync_bits (long ∙ sym length-sync_bits)

-- The test that bits begin with a sync.

-- fewer than 48 bits begin with none
pub has_sync-short : (bits : List Bool) → length bits < 48 → has_sync bits ≡ false
unfolding has_sync
has_sync-short bits few = and_left (nat_le 48 (length bits)) (nat_le (distance_of (take 48 bits) sync_bits) sync_slack) (lt-leb 48 (length bits) few)

-- bits that begin with a sync are at least 48
pub has_sync-length : (bits : List Bool) → has_sync bits ≡ true → 48 ≤ length bits
unfolding has_sync
has_sync-length bits begins = leb-true 48 (length bits) (and_parts (nat_le 48 (length bits)) (nat_le (distance_of (take 48 bits) sync_bits) sync_slack) begins).0

-- and they differ from it in at most as many positions as the slack
pub has_sync-distance : (bits : List Bool) → has_sync bits ≡ true → distance_of (take 48 bits) sync_bits ≤ sync_slack
unfolding has_sync
has_sync-distance bits begins =
    leb-true (distance_of (take 48 bits) sync_bits) sync_slack (and_parts (nat_le 48 (length bits)) (nat_le (distance_of (take 48 bits) sync_bits) sync_slack) begins).1

-- 48 bits near the sync begin with one
pub has_sync-yes : (bits : List Bool) → 48 ≤ length bits → distance_of (take 48 bits) sync_bits ≤ sync_slack → has_sync bits ≡ true
unfolding has_sync
has_sync-yes bits long near =
    and_from (nat_le 48 (length bits)) (nat_le (distance_of (take 48 bits) sync_bits) sync_slack) (le-leb 48 (length bits) long) (le-leb (distance_of (take 48 bits) sync_bits) sync_slack near)

-- bits farther away begin with none
pub has_sync-no : (bits : List Bool) → sync_slack < distance_of (take 48 bits) sync_bits → has_sync bits ≡ false
unfolding has_sync
has_sync-no bits far = and_right (nat_le 48 (length bits)) (nat_le (distance_of (take 48 bits) sync_bits) sync_slack) (lt-leb (distance_of (take 48 bits) sync_bits) sync_slack far)

-- bits after the first 48 change nothing
pub has_sync-append : (bits more : List Bool) → 48 ≤ length bits → has_sync (bits ++ more) ≡ has_sync bits
unfolding has_sync
has_sync-append bits more long =
    let longer : 48 ≤ length (bits ++ more) = omega (arith, length-append bits more) in
    ap₂ ◌&&◌ (le-leb 48 (length (bits ++ more)) longer ∙ sym (le-leb 48 (length bits) long))
    (ap (λ (beginning : List Bool). nat_le (distance_of beginning sync_bits) sync_slack) (take-append-le 48 bits more long))

-- so the first bits are enough
pub has_sync-take : (bits : List Bool) (count : ℕ) → 48 ≤ count → count ≤ length bits → has_sync (take count bits) ≡ has_sync bits
has_sync-take bits count enough there =
    let long : 48 ≤ length (take count bits) = omega (arith, length-take count bits) in
    sym (has_sync-append (take count bits) (drop count bits) long) ∙ ap has_sync (take-append-drop count bits)
