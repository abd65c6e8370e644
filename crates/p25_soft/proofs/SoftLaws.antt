-- The soft path as a function is the first least path, and its octets follow. Levels near a path have it as their soft path, because the nominal
-- levels of another deviate too far.
use Rattle.std.proofs.{Common.{◌≡◌, ℕ, ◌+◌, ◌*◌, ◌^◌, ◌<◌, ◌≤◌, Bool, List, length, take, refl, ap, sym, subst, ◌∙◌, arith, All, ℤ}, lemmas.List.{length-map}}
use Rattle.p25_bits.specs.{Distance.{distance_of}, Numbers.{number_bits, octets_from}}
use Rattle.p25_bits.proofs.NumbersLaws.{length-numbers_from}
use Rattle.p25_trellis.specs.{Trellis.{IsFirstLeast, IsFirstLeastReading, IsPath, Carries, sent_bits}, Nearest.{block_from}}
use Rattle.p25_trellis.proofs.{ApartLaws.{length-sent_bits, length-block}, FirstPathLaws.{same_reading}}
use Rattle.p25_trellis.proofs.{NearestLaws.{IsFirstLeast-first_least_end, Carries-octets_from, least_reading, IsBlock-block_from, same_block_from}, PathLaws.{power-pos, same_octets}}
use Rattle.p25_soft.specs.{Levels.{bits_deviation, deviation_of, dibits_of, hard_bits, nominal_level, nominal_levels}, SoftPaths.{soft_cost, soft_path, soft_octets, soft_block}}
use Rattle.p25_soft.proofs.DeviationLaws.{deviation-same, deviation-triangle, far-bits, hard_bits-nominal, length-dibits_of}

-- the soft path is the first least path by the cost of levels
pub IsFirstLeast-soft_path : (states : ℕ) (point : ℕ → ℕ → ℕ) (levels : List ℤ) → 0 < states → IsFirstLeast states (soft_cost point levels) (soft_path states point levels)
unfolding soft_path
IsFirstLeast-soft_path states point levels some = IsFirstLeast-first_least_end states (soft_cost point levels) some

-- its octets and its cost are the decoding of the levels
pub soft_reading : (states width : ℕ) (point : ℕ → ℕ → ℕ) (levels : List ℤ) → 0 < states
    → IsFirstLeastReading states width (soft_cost point levels) (soft_octets states width point levels) (soft_cost point levels (soft_path states point levels))
unfolding soft_octets
soft_reading states width point levels some =
    least_reading states width (soft_cost point levels) (soft_path states point levels) (IsFirstLeast-soft_path states point levels some)

-- and no others are
pub same_soft : (states width : ℕ) (point : ℕ → ℕ → ℕ) (levels : List ℤ) (octets : List ℕ) (cost : ℕ) → 0 < states
    → IsFirstLeastReading states width (soft_cost point levels) octets cost → octets ≡ soft_octets states width point levels
same_soft states width point levels octets cost some reading =
    (same_reading states width (soft_cost point levels) octets (soft_octets states width point levels) cost
    (soft_cost point levels (soft_path states point levels)) reading (soft_reading states width point levels some)).0

pub length-soft_octets : (states width : ℕ) (point : ℕ → ℕ → ℕ) (levels : List ℤ) → length (soft_octets states width point levels) ≡ 6 * width
unfolding soft_octets
length-soft_octets states width point levels = length-numbers_from 8 (6 * width) (number_bits width (take 48 (soft_path states point levels)))

-- the transmitted bits of the soft path are the block of its octets
pub soft_block-is : (states width : ℕ) (point : ℕ → ℕ → ℕ) (levels : List ℤ)
    → states ≡ 2 ^ width → 0 < states → soft_block states point levels ≡ block_from width point (soft_octets states width point levels)
unfolding soft_block soft_octets
soft_block-is states width point levels states_is some =
    let first = IsFirstLeast-soft_path states point levels some in
    same_block_from states width point (soft_octets states width point levels) (soft_block states point levels) states_is (length-soft_octets states width point levels)
    (record {
      path = soft_path states point levels;
      is_path = first.is_path;
      carries = Carries-octets_from states width (soft_path states point levels) first.is_path;
      sent = refl;
    })

nominal_levels-triangle : (xs ys : List Bool) (levels : List ℤ) → length (dibits_of xs) ≡ length levels → length (dibits_of ys) ≡ length levels
    → deviation_of (dibits_of xs) (nominal_levels ys) ≤ 2 * deviation_of (dibits_of xs) levels + 2 * deviation_of (dibits_of ys) levels
unfolding nominal_levels
nominal_levels-triangle xs ys levels one two = deviation-triangle (dibits_of xs) (dibits_of ys) levels one two

block_cost : (point : ℕ → ℕ → ℕ) (levels : List ℤ) (path : List ℕ) (block : List Bool) → block ≡ sent_bits point path → soft_cost point levels path ≡ bits_deviation block levels
unfolding soft_cost
block_cost point levels path block is = ap (λ (bits : List Bool). bits_deviation bits levels) (sym is)

-- levels that deviate little from a path have it as their soft path
near_path : (states apart : ℕ) (point : ℕ → ℕ → ℕ) (levels : List ℤ) (path : List ℕ) → 0 < states
    → ((one other : List ℕ) → IsPath states one → IsPath states other → distance_of (sent_bits point one) (sent_bits point other) < apart → one ≡ other)
    → length levels ≡ 98 → IsPath states path → soft_cost point levels path < 1024 * apart → path ≡ soft_path states point levels
unfolding soft_cost bits_deviation
near_path states apart point levels path some far long is near =
    let first = IsFirstLeast-soft_path states point levels some in
    let read = soft_path states point levels in
    let one : length (sent_bits point path) ≡ 2 * 98 = length-sent_bits states point path is in
    let other : length (sent_bits point read) ≡ 2 * 98 = length-sent_bits states point read first.is_path in
    let one_long : length (dibits_of (sent_bits point path)) ≡ length levels = length-dibits_of 98 (sent_bits point path) one ∙ sym long in
    let other_long : length (dibits_of (sent_bits point read)) ≡ length levels = length-dibits_of 98 (sent_bits point read) other ∙ sym long in
    far path read is first.is_path
    (
    omega (
      arith,
      near,
      first.least path is,
      far-bits 98 (sent_bits point path) (sent_bits point read) one other,
      nominal_levels-triangle (sent_bits point path) (sent_bits point read) levels one_long other_long,
    )
    )

-- and decode to the octets that it carries
pub near_octets : (states width apart : ℕ) (point : ℕ → ℕ → ℕ) (levels : List ℤ) (octets : List ℕ) → states ≡ 2 ^ width
    → ((one other : List ℕ) → IsPath states one → IsPath states other → distance_of (sent_bits point one) (sent_bits point other) < apart → one ≡ other)
    → length levels ≡ 98 → length octets ≡ 6 * width → All (λ octet. octet < 256) octets
    → bits_deviation (block_from width point octets) levels < 1024 * apart → soft_octets states width point levels ≡ octets
unfolding soft_octets
near_octets states width apart point levels octets states_is far long count small near =
    let some = power-pos width states states_is in
    let block = IsBlock-block_from states width point octets states_is count small in
    let here : soft_cost point levels block.path < 1024 * apart = omega (arith, near, block_cost point levels block.path (block_from width point octets) block.sent) in
    let same = near_path states apart point levels block.path some far long block.is_path here in
    let first = IsFirstLeast-soft_path states point levels some in
    same_octets width (soft_path states point levels) (octets_from (6 * width) (number_bits width (take 48 (soft_path states point levels)))) octets
    (Carries-octets_from states width (soft_path states point levels) first.is_path)
    (subst (λ (path : List ℕ). Carries width path octets) same block.carries)

-- the nominal levels of a block decode to its octets
pub nominal_octets : (states width : ℕ) (point : ℕ → ℕ → ℕ) (octets : List ℕ) → states ≡ 2 ^ width → length octets ≡ 6 * width → All (λ octet. octet < 256) octets
    → (length (nominal_levels (block_from width point octets)) ≡ 98)
    × (bits_deviation (block_from width point octets) (nominal_levels (block_from width point octets)) ≡ 0)
    × (hard_bits (nominal_levels (block_from width point octets)) ≡ block_from width point octets)
unfolding bits_deviation nominal_levels
nominal_octets states width point octets states_is count small =
    let block = block_from width point octets in
    let long : length block ≡ 2 * 98 = length-block states width point octets block (IsBlock-block_from states width point octets states_is count small) in (
      length-map (dibits_of block) nominal_level ∙ length-dibits_of 98 block long,
      deviation-same (dibits_of block),
      hard_bits-nominal 98 block long,
    )
