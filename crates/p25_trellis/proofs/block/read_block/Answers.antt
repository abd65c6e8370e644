use Rattle.std.proofs.{Common.{◌≡◌, ℕ, ◌+◌, ◌<◌, ◌≤◌, All, Bool, List, length, drop, refl, sym, subst, arith, length-drop}, lemmas.List.Elements.{All-same}}
use Rattle.p25_bits.specs.{Bits.{part}, Numbers.{number_bits, numbers_from}}
use Rattle.p25_trellis.specs.{Interleave.{interleaved}, TableLaws.{IsRate}, Trellis.{IsFirstLeastReading, IsNearReading, distance_from, sent_bits}, Nearest.{nearest_octets, nearest_distance}}
use Rattle.p25_bits.proofs.{NumbersLaws.{All-numbers_from, number_bits-numbers_from}, PartLaws.{length-part}}
use Rattle.p25_trellis.proofs.{DistanceLaws.{path_cost-distance, IsFirstLeastReading-same}, ApartLaws.{same_from_sent_bits, IsNearReading-from}, ExactSteps.{IsFirstLeast-exact, at_no_distance}}
use Rattle.p25_trellis.proofs.{InterleaveLaws.{All-from_interleaved}, NearestLaws.{same_nearest}, PathLaws.{power-pos}}
use Rattle.p25_trellis.proofs.block.read_block.Goals as goal

-- the nibbles of a block, as they are before they are interleaved
are_nibbles : (bits : List Bool) (at : ℕ) (received : List ℕ) → interleaved received ≡ numbers_from 4 49 (drop at bits) → All (λ n. n < 16) received
are_nibbles bits at received is =
    All-from_interleaved (λ n. n < 16) received (All-same (λ n. n < 16) _ _ is (All-numbers_from 4 49 (drop at bits)))

-- and the bits that they write
are_bits : (bits : List Bool) (at : ℕ) (received : List ℕ) → interleaved received ≡ numbers_from 4 49 (drop at bits) → at + 196 ≤ length bits
    → part at 196 bits ≡ number_bits 4 (interleaved received)
are_bits bits at received is there =
    cc (number_bits-numbers_from 4 49 (drop at bits) (omega (arith, length-drop at bits, there)), is)

-- the consequences of a decoding that is the first nearest
record IsReadBlock (states width apart : ℕ) (point : ℕ → ℕ → ℕ) (received : List Bool) (octets : List ℕ) (distance : ℕ) : Type 0 where
  nearest : IsFirstLeastReading states width (distance_from point received) octets distance
  octets_are : octets ≡ nearest_octets states width point received
  distance_is : distance ≡ nearest_distance states point received
  near : IsNearReading states width point apart received octets distance

read_from : {states width count apart : ℕ} {point parted : ℕ → ℕ → ℕ} → IsRate states width count apart point parted → (bits : List Bool) (at : ℕ) (received : List ℕ) (octets : List ℕ) (distance : ℕ)
    → interleaved received ≡ numbers_from 4 49 (drop at bits) → at + 196 ≤ length bits
    → IsFirstLeastReading states width (distance_from point (number_bits 4 (interleaved received))) octets distance
    → IsReadBlock states width apart point (part at 196 bits) octets distance
read_from {states} {width} {apart = apart} {point} {parted} law bits at received octets distance is there reading =
    let some = power-pos width states law.states_of_bits in
    let nearest = subst (λ (xs : List Bool). IsFirstLeastReading states width (distance_from point xs) octets distance) (sym (are_bits bits at received is there)) reading in
    let same = same_nearest states width point (part at 196 bits) octets distance some nearest in
    let far = same_from_sent_bits states apart point parted some law.together law.stays_parted law.parts in
    record {
      nearest = nearest;
      octets_are = same.0;
      distance_is = same.1;
      near = IsNearReading-from states width apart point (part at 196 bits) octets distance far (length-part at 196 bits there) nearest;
    }

pub path_along-requires : goal.path_along-requires
path_along-requires g c = are_nibbles c.args.bits.now c.args.at c.take_nibbles-received.result c.take_nibbles-received.ensures.sent

pub read_near-requires-clause-nibbles : goal.read_near-requires-clause-nibbles
read_near-requires-clause-nibbles g c = are_nibbles c.args.bits.now c.args.at c.take_nibbles-received.result c.take_nibbles-received.ensures.sent

pub returns-in-Some : goal.returns-in-Some
unfolding sent_bits
returns-in-Some g c =
    let rate = g.R.Rate in
    let law = g.met.R.Rate.table in
    let point = rate.point_of in
    let path = c.in-Some.path in
    let received = c.take_nibbles-received.result in
    let sent = number_bits 4 (interleaved received) in
    let sends : sent_bits point path ≡ sent = rw c.in-Some.ensures.1 in
    let read = read_from law c.args.bits.now c.args.at received c.octets_of.new.octets 0 c.take_nibbles-received.ensures.sent c.requires.there (record {
      path = path;
      first_least = IsFirstLeast-exact rate.STATES rate.APART point sent path law.some_apart
          (same_from_sent_bits rate.STATES rate.APART point rate.parted (power-pos rate.BITS_PER_SYMBOL rate.STATES law.states_of_bits) law.together law.stays_parted law.parts) c.in-Some.ensures.0 sends;
      carries = c.octets_of.ensures;
      total_is = sym (at_no_distance point sent path sends);
    }) in
    record { nearest = read.nearest; octets = read.octets_are; distance = read.distance_is; near = read.near }

pub returns-in-None : goal.returns-in-None
returns-in-None g c =
    let rate = g.R.Rate in
    let law = g.met.R.Rate.table in
    let received = c.take_nibbles-received.result in
    let read = read_from law c.args.bits.now c.args.at received c.read_near.new.octets c.read_near.result c.take_nibbles-received.ensures.sent c.requires.there (IsFirstLeastReading-same
    (path_cost-distance rate.STATES rate.point_of received _ (power-pos rate.BITS_PER_SYMBOL rate.STATES law.states_of_bits) law.nibbles c.take_nibbles-received.ensures.len refl)
    c.read_near.ensures) in
    record { nearest = read.nearest; octets = read.octets_are; distance = read.distance_is; near = read.near }
