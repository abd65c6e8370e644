-- The distance of the first nearest path is that of the block of the octets decoded by it.
use Rattle.std.proofs.Common.{◌≡◌, ℕ, ◌*◌, ◌^◌, ◌<◌, ◌≤◌, Bool, List, length, refl, arith, All}
use Rattle.p25_bits.specs.Distance.{distance_of}
use Rattle.p25_bits.proofs.{DistanceLaws.{distance_by-le}, NumbersLaws.{length-numbers_from}}
use Rattle.p25_trellis.specs.{Trellis.{sent_bits}, Nearest.{nearest_octets, nearest_distance, block_from}}
use Rattle.p25_trellis.proofs.{ApartLaws.{length-sent_bits}, NearestLaws.{nearest_reading, same_block_from}}

-- the decoded octets are octets
pub All-nearest_octets : (states width : ℕ) (point : ℕ → ℕ → ℕ) (received : List Bool) → 0 < states → All (λ octet. octet < 256) (nearest_octets states width point received)
All-nearest_octets states width point received some = (nearest_reading states width point received some).carries.are_octets

length-nearest_octets : (states width : ℕ) (point : ℕ → ℕ → ℕ) (received : List Bool) → length (nearest_octets states width point received) ≡ 6 * width
unfolding nearest_octets
length-nearest_octets states width point received = length-numbers_from 8 _ _

pub nearest_distance-block : (states width : ℕ) (point : ℕ → ℕ → ℕ) (received : List Bool) → 0 < states → states ≡ 2 ^ width
    → nearest_distance states point received ≡ distance_of (block_from width point (nearest_octets states width point received)) received
nearest_distance-block states width point received some states_is =
    let reading = nearest_reading states width point received some in
    cc (
      reading.total_is,
      same_block_from states width point (nearest_octets states width point received) (sent_bits point reading.path) states_is (length-nearest_octets states width point received)
          (record { path = reading.path; is_path = reading.first_least.is_path; carries = reading.carries; sent = refl }),
    )

-- it is at most all bits of a block
pub nearest_distance-le : (states width : ℕ) (point : ℕ → ℕ → ℕ) (received : List Bool) → 0 < states → nearest_distance states point received ≤ 196
nearest_distance-le states width point received some =
    let reading = nearest_reading states width point received some in
    omega (
      arith,
      reading.total_is,
      distance_by-le,
      length-sent_bits states,
    )
