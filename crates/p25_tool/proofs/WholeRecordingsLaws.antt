-- The output of `follow` and `relay` for any recording: their definitions over bits, which keep the number of bits, so that they fill the octets.
use Rattle.std.proofs.Common.{◌≡◌, ℕ, ◌/◌, Bool, true, List, [], length, None, refl, ◌∙◌, arith}
use Rattle.p25_bits.specs.Bits.{octet_bits}
use Rattle.p25_bits.proofs.{BitsLaws.{length-octet_bits}, NumbersLaws.{length-numbers_from}}
use Rattle.p25_units.specs.Units.{whole_octets}
use Rattle.p25_stream.specs.Items.{items_of}
use Rattle.p25_follow.specs.{Followed.{follow_of, followed_by}, Relayed.{relay_of}}
use Rattle.p25_follow.proofs.{LengthLaws.{length-follow_of}, RelayedPlacesLaws.{relay-long}}
use Rattle.p25_tool.specs.Recorded.{AreOctetsOf, FollowsRecording, RelaysRecording}
use Rattle.p25_tool.proofs.RecordedLaws.{octet_bits-whole}

-- bits that are as many as those of some octets fill as many
as-many : (octets : List ℕ) (bits : List Bool) → length bits ≡ length (octet_bits octets) → AreOctetsOf bits (whole_octets bits) × (length (whole_octets bits) ≡ length octets)
as-many octets bits long = (
  record { octets_are = refl; bits_are = octet_bits-whole bits (omega (arith, long, length-octet_bits octets)) },
  length-numbers_from 8 (length bits / 8) bits ∙ omega (arith, long, length-octet_bits octets),
)

pub follows-recording : FollowsRecording
unfolding follow_of
follows-recording octets = as-many octets (followed_by true None [] (items_of 0 (octet_bits octets)) (octet_bits octets)) (length-follow_of (octet_bits octets))

pub relays-recording : RelaysRecording
relays-recording nac status octets fits = let bits = octet_bits octets in as-many octets (relay_of nac status bits) (relay-long nac status bits fits)
