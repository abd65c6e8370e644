-- A transmission in which at most one bit is inverted arrives within the correction radius: no part of it differs in more positions than the whole.
-- By recursion on the bits and on the flips.
use Rattle.std.proofs.Common.{◌≡◌, ℕ, zero, suc, ◌+◌, ◌*◌, ◌/◌, ◌<◌, ◌≤◌, inl, inr, Bool, cond, List, [], ◌∷◌, ◌++◌, length, take, drop, replicate, refl, ap, ap₂, sym, subst, ◌∙◌, arith, length-append, length-drop}
use Rattle.std.proofs.{lemmas.Bool.{cases_lt}, lemmas.Bool.Decides.{nat_tests}, lemmas.List.{take-take, length-replicate}, lemmas.List.Sums.{sum_by-cons}}
use Rattle.std.specs.{Prelude.{nat_lt, count_by}, Bool.{beq}}
use Rattle.p25_bits.specs.{Bits.{part, flipped}, Distance.{distance_by, distance_of}}
use Rattle.p25_bits.proofs.{BitsLaws.{length-flipped}, PartLaws.{length-part}}
use Rattle.p25_bits.proofs.DistanceLaws.{distance_by-append, distance_of-same, distance_of-sym, distance_of-triangle, distance_of-split, distance_of-take, distance_of-part, distance_of-flipped}
use Rattle.p25_status.specs.Woven.{bare_in, bare_of}
use Rattle.p25_status.proofs.WovenLaws.{length-woven, length-bare_of}
use Rattle.p25_unit_front.specs.Front.{identifier_bits}
use Rattle.p25_packet_blocks.specs.{declared.packet.Packet.{Packet}, declared.packet.Packet.TheVariants.{Confirmed, Plain}, Heads.{head_blocks}, Whole.{packet_head}, Lengths.{packet_parts}}
use Rattle.p25_packet_blocks.specs.{Reading.{header_bits, block_bits}, Image.{packet_image_of}, Sendable.{IsSendable}, Within.{block_radius}}
use Rattle.p25_packet_blocks.proofs.PlacesLaws.{image_long}
use Rattle.p25_stations.specs.Air.{places_within, station_nac, station_status, transmission_of, with_flips, received_bits, ArrivesWithin}
use Rattle.p25_stations.proofs.AirLoopLaws.{flipped-past}

-- Distances of parts.

-- the bits of blocks without their status symbols
distance-bare_in : (blocks : ℕ) (xs ys : List Bool) → length xs ≡ 72 * blocks → length ys ≡ 72 * blocks → distance_of (bare_in blocks xs) (bare_in blocks ys) ≤ distance_of xs ys
unfolding bare_in distance_by
distance-bare_in zero xs ys e f = omega arith
distance-bare_in (suc blocks) xs ys e f =
    let long : length (take 70 xs) ≡ length (take 70 ys) = omega (arith, length-part 0 70 xs (omega (arith, e)), length-part 0 70 ys (omega (arith, f))) in
    let front : distance_of (take 70 xs) (take 70 ys) ≤ distance_of (take 72 xs) (take 72 ys)
    = rw (← take-take 70 72 xs (omega arith)) (rw (take-take 70 72 ys (omega arith)) at (distance_of-take 70 (take 72 xs) (take 72 ys) (omega (arith, length-part 0 72 xs (omega (arith, e)), length-part 0 72 ys (omega (arith, f)))))) in
    let rest = distance-bare_in blocks (drop 72 xs) (drop 72 ys) (omega (arith, e, length-drop 72 xs)) (omega (arith, f, length-drop 72 ys)) in
    omega (arith, distance_by-append beq (take 70 xs) (bare_in blocks (drop 72 xs)) (take 70 ys) (bare_in blocks (drop 72 ys)) long, front, rest, distance_of-split 72 xs ys (cc))

distance-bare_of : (blocks : ℕ) (xs ys : List Bool) → length xs ≡ 72 * blocks → length ys ≡ 72 * blocks → distance_of (bare_of xs) (bare_of ys) ≤ distance_of xs ys
unfolding bare_of
distance-bare_of blocks xs ys e f =
    let x : length xs / 72 ≡ blocks = omega (arith, e) in
    let y : length ys / 72 ≡ blocks = omega (arith, f) in
    rw (x, y) (distance-bare_in blocks xs ys e f)

-- Flips.

pub length-with_flips : (bits : List Bool) (flips : List ℕ) → length (with_flips bits flips) ≡ length bits
unfolding with_flips
length-with_flips bits [] = refl
length-with_flips bits (place ∷ flips) = length-with_flips (flipped bits place) flips ∙ length-flipped bits place

counts-within : (count place : ℕ) → place < count → cond {A = ℕ} (nat_lt place count) 1 0 ≡ 1
counts-within count place h = grind (arith, nat_tests)

distance-with_flips : (bits : List Bool) (flips : List ℕ) (count : ℕ) → count ≡ length bits → distance_of (with_flips bits flips) bits ≤ count_by (λ place. nat_lt place count) flips
unfolding with_flips
distance-with_flips bits [] count e = omega (arith, distance_of-same bits)
distance-with_flips bits (place ∷ flips) count e =
    let next = flipped bits place in
    let through = distance_of-triangle (with_flips next flips) next bits (length-with_flips next flips) in
    let rest = distance-with_flips next flips count (cc (length-flipped bits place)) in
    let more = sum_by-cons (λ (p : ℕ). cond (nat_lt p count) 1 0) place flips in
    let here : distance_of next bits ≤ cond (nat_lt place count) 1 0
    = elim (cases_lt place count) [
      | inl inside ↦ omega (arith, distance_of-flipped bits place, counts-within count place inside)
      | inr past ↦ omega (arith, ap (λ (xs : List Bool). distance_of xs bits) (flipped-past bits place (omega (arith, e, past))), distance_of-same bits)
    ] in
    omega (arith, through, rest, more, here)

-- A transmission.

length-transmission : (packet : Packet) → IsSendable packet → length (transmission_of packet) ≡ 72 * packet_parts (head_blocks (packet_head packet))
unfolding transmission_of
length-transmission packet sendable =
    let n = packet_parts (head_blocks (packet_head packet)) in
    let count = length-replicate n station_status in
    cc (length-woven (packet_image_of station_nac packet) (replicate n station_status) (cc (image_long station_nac packet sendable)))

least-radius : (packet : Packet) → 1 ≤ block_radius packet
least-radius (Confirmed packet) = omega arith
least-radius (Plain packet) = omega arith

distance-identifier : (xs ys : List Bool) → length xs ≡ length ys → 114 ≤ length xs → distance_of (take 63 (identifier_bits xs)) (take 63 (identifier_bits ys)) ≤ distance_of xs ys + distance_of xs ys
unfolding identifier_bits
distance-identifier xs ys e h =
    let first : length (part 48 22 xs) ≡ length (part 48 22 ys) = length-part 48 22 xs (omega arith) ∙ sym (length-part 48 22 ys (omega (arith, e))) in
    let second : length (part 72 42 xs) ≡ length (part 72 42 ys) = length-part 72 42 xs (omega arith) ∙ sym (length-part 72 42 ys (omega (arith, e))) in
    let all : length (part 48 22 xs ++ part 72 42 xs) ≡ length (part 48 22 ys ++ part 72 42 ys)
    = cc (length-append (part 48 22 xs) (part 72 42 xs), length-append (part 48 22 ys) (part 72 42 ys)) in
    omega (
      arith,
      distance_of-take 63 (part 48 22 xs ++ part 72 42 xs) (part 48 22 ys ++ part 72 42 ys) all,
      distance_by-append beq (part 48 22 xs) (part 72 42 xs) (part 48 22 ys)
          (part 72 42 ys) first,
      distance_of-part 48 22 xs ys e,
      distance_of-part 72 42 xs ys e,
    )

-- at most one bit of it is inverted
pub few-arrive : (packet : Packet) (flips : List ℕ) → IsSendable packet → places_within packet flips < 2 → ArrivesWithin packet flips
unfolding ArrivesWithin
few-arrive packet flips sendable few =
    let sent = transmission_of packet in
    let received = received_bits packet flips in
    let n = packet_parts (head_blocks (packet_head packet)) in
    let long : length sent ≡ 72 * n = length-transmission packet sendable in
    let same : length received ≡ length sent = length-with_flips sent flips in
    let wrong : distance_of received sent ≤ 1 = omega (arith, few, distance-with_flips sent flips (length sent) refl) in
    let bare : distance_of (bare_of received) (bare_of sent) ≤ 1 = omega (arith, wrong, distance-bare_of n received sent (same ∙ long) long) in
    let bare_long : length (bare_of received) ≡ length (bare_of sent) = length-bare_of n received (same ∙ long) ∙ sym (length-bare_of n sent long) in
    record {
      long = same;
      sync = omega (arith, wrong, distance_of-take 48 received sent same);
      identifier = omega (arith, wrong, distance-identifier received sent same (omega (arith, same, long)));
      blocks = record {
        long = bare_long;
        header = omega (arith, bare, distance_of-part 112 196 (bare_of received) (bare_of sent) bare_long, distance_of-sym (header_bits (bare_of sent)) (header_bits (bare_of received)));
        blocks = λ (j : ℕ) (h : j < head_blocks (packet_head packet)).
            omega (
              arith,
              bare,
              least-radius packet,
              distance_of-part (308 + 196 * j) 196 (bare_of received) (bare_of sent) bare_long,
              distance_of-sym (block_bits (bare_of sent) j) (block_bits (bare_of received) j),
            );
      };
    }
