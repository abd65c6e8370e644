-- The damage of sample data units lies within the correction radius: each codeword differs in at most as many bits as are inverted. Only the inner
-- codewords that are inverted whole have more bit errors than the correction radius, and they are so few that the outer code corrects them.
use Rattle.std.proofs.Common.{◌≡◌, ℕ, zero, suc, ◌+◌, ◌*◌, ◌%◌, ◌≤◌, Bool, true, false, cond, nat_le, List, [], ◌∷◌, ◌++◌, length, map, All, sum_by, refl, ap, ap₂, ◌∙◌, arith, mul-le-mul_left}
use Rattle.std.proofs.{lemmas.Bool.{cond-true, le-leb}, lemmas.List.{map-append}, lemmas.List.Elements.{All-nil, All-cons}, lemmas.List.Sums.{sum_by-cons}}
use Rattle.std.specs.List.{AllByRecursion as Each}
use Rattle.p25_bits.specs.{Bits.{part}, Distance.{distance_of}}
use Rattle.p25_bits.proofs.DistanceLaws.{distance_of-sym}
use Rattle.p25_coded_fields.specs.{Layouts.{Layout, places_from}, Within.{lost_symbols}}
use Rattle.p25_coded_fields.proofs.FieldLaws.{length-places_from, get_or-places_from}
use Rattle.p25_voice_units.specs.{declared.unit.VoiceUnit.{VoiceUnit}, declared.unit.VoiceUnit.TheVariants.{Header, Link1, Link2, End, EndLink}}
use Rattle.p25_voice_units.specs.{FieldLayouts.{word_places, header_layout, link_layout, sync_layout, tdulc_layout}, Fixes.{wide, link_looked}, Layouts.{hdu_rows, ldu_rows, tdulc_rows}}
use Rattle.p25_voice_units.specs.{Readings.{low_places}, WithinRadius.{AreLowWithin, IsVoiceWithinByWords}}
use Rattle.p25_packet_blocks.specs.{declared.packet.Packet.{Packet as packet_type}, declared.packet.Packet.TheVariants.{Confirmed as confirmed_packet, Plain as plain_packet}, Heads.{head_blocks}}
use Rattle.p25_packet_blocks.specs.{Reading.{header_bits, block_bits}, Whole.{packet_head}, Within.{AreBlocksWithin, block_radius}}
use Rattle.p25_units.specs.{declared.unit.Body.{Body}, declared.unit.Body.TheVariants.{Voice, Packet}}
use Rattle.p25_vectors.specs.{Draws.{draw, state_after}, Damage.{damaged, word_hits, field_hits, link_hits, body_hits, unit_hits}}
use Rattle.p25_vectors.proofs.DamageLaws.{word_of, IsFit, IsNearAt, rising, near-damaged}
use Rattle.p25_vectors.proofs.HitsLaws.{below-most, words-of, hits-fit, each-joined, each-parts}

-- Codewords.

module _ (layout : Layout) (radius : ℕ) (sent received : List Bool) where
  lost : ℕ → ℕ
  lost at = cond (nat_le (distance_of (part at layout.size received) (part at layout.size sent)) radius) 0 layout.each

  lost-le : (at : ℕ) → lost at ≤ layout.each
  unfolding lost
  lost-le at = elim (nat_le (distance_of (part at layout.size received) (part at layout.size sent)) radius) as (λ b. cond b 0 layout.each ≤ layout.each) [ true ↦ omega arith | false ↦ omega arith ]

  lost-none : (at : ℕ) → distance_of (part at layout.size received) (part at layout.size sent) ≤ radius → lost at ≡ 0
  unfolding lost
  lost-none at h = cond-true {A = ℕ} (nat_le (distance_of (part at layout.size received) (part at layout.size sent)) radius) 0 layout.each
      (le-leb (distance_of (part at layout.size received) (part at layout.size sent)) radius h)

  lost-few : (whole : ℕ) (places : List ℕ) (state : ℕ) → Each (IsNearAt sent received) (word_hits layout.size radius whole places state).0 → sum_by lost places ≤ layout.each * whole
  unfolding word_hits
  lost-few whole [] state near = omega arith
  lost-few (suc whole) (at ∷ places) state near =
      let one : layout.each * suc whole ≡ layout.each + layout.each * whole = grind arith in
      omega (arith, sum_by-cons lost at places, lost-le at, lost-few whole places state near.1, one)
  lost-few zero (at ∷ places) state near =
      let first = lost-none at (omega (arith, near.0, below-most (draw 0 state) radius)) in
      omega (arith, sum_by-cons lost at places, first, lost-few zero places (state_after 1 state) near.1)

  field-near : (most state : ℕ) → Each (IsNearAt sent received) (field_hits layout.size radius most layout.places state).0 → lost_symbols radius layout sent received ≤ layout.each * most
  unfolding lost_symbols lost
  field-near most state near =
      let whole = draw 0 state % (most + 1) in
      omega (arith, lost-few whole layout.places (state_after 1 state) near, mul-le-mul_left layout.each (below-most (draw 0 state) most))

words-near : (size radius : ℕ) (places : List ℕ) (state : ℕ) (sent received : List Bool) → Each (IsNearAt sent received) (word_hits size radius 0 places state).0
    → All (λ at. distance_of (part at size received) (part at size sent) ≤ radius) places
unfolding word_hits
words-near size radius [] state sent received near = All-nil (λ at. distance_of (part at size received) (part at size sent) ≤ radius)
words-near size radius (at ∷ places) state sent received near =
    All-cons (λ at. distance_of (part at size received) (part at size sent) ≤ radius) at places (omega (arith, near.0, below-most (draw 0 state) radius))
    (words-near size radius places (state_after 1 state) sent received near.1)

-- Voice units.

link-near : (most state : ℕ) (sent received : List Bool) → Each (IsNearAt sent received) (link_hits most state).0
    → Each (IsNearAt sent received) (field_hits 10 1 most (word_places 10 ldu_rows) state).0 × AreLowWithin sent received
link-near most state sent received near =
    let field = field_hits 10 1 most (word_places 10 ldu_rows) state in
    let parts = each-parts (IsNearAt sent received) field.0 (word_hits 16 2 0 (low_places ldu_rows) field.1).0 near in
    (parts.0, words-near 16 2 (low_places ldu_rows) field.1 sent received parts.1)

pub voice-within : (voice : VoiceUnit) (state : ℕ) (sent received : List Bool) → Each (IsNearAt sent received) (body_hits (Voice voice) state).0 → IsVoiceWithinByWords voice sent received
unfolding body_hits IsVoiceWithinByWords
voice-within (Header word) state sent received near = field-near header_layout 3 sent received 8 state near
voice-within (Link1 link low voice) state sent received near =
    let parts = link-near 6 state sent received near in record { field = field-near link_layout 1 sent received 6 state parts.0; low = parts.1 }
voice-within (Link2 sync low voice) state sent received near =
    let parts = link-near 4 state sent received near in record { field = field-near sync_layout 1 sent received 4 state parts.0; low = parts.1 }
voice-within End state sent received near = tt
voice-within (EndLink link) state sent received near = field-near tdulc_layout 3 sent received 3 state near

-- Packets.

pub packet-within : (packet : packet_type) (state : ℕ) (sent received : List Bool) → length received ≡ length sent
    → Each (IsNearAt sent received) (body_hits (Packet packet) state).0 → AreBlocksWithin packet sent received
unfolding body_hits word_hits
packet-within packet state sent received long near = record {
  long = long;
  header = omega (arith, near.0, below-most (draw 0 state) 2, distance_of-sym (header_bits sent) (header_bits received));
  blocks = λ j h.
      let n = head_blocks (packet_head packet) in
      let all = words-near 196 (block_radius packet) (places_from 308 196 n) (state_after 1 state) sent received near.1 in
      let near = rw (get_or-places_from 308 196 n j 0 h) at (all j 0 (omega (arith, length-places_from 308 196 n, h))) in
      omega (arith, near, distance_of-sym (block_bits sent j) (block_bits received j));
}

-- The hits of every unit are disjoint, and no more bits are inverted than they have.

pub link-words : (most state : ℕ) → map word_of (link_hits most state).0 ≡ link_looked
unfolding link_looked
link-words most state =
    let field = field_hits 10 1 most (word_places 10 ldu_rows) state in
    map-append word_of field.0 (word_hits 16 2 0 (low_places ldu_rows) field.1).0
    ∙ ap₂ ◌++◌ (words-of 10 1 (draw 0 state % (most + 1)) (word_places 10 ldu_rows) (state_after 1 state)) (words-of 16 2 0 (low_places ldu_rows) field.1)

rising-blocks : (at n : ℕ) → rising at (wide 196 (places_from at 196 n)) ≡ true
unfolding rising wide places_from
rising-blocks at zero = refl
rising-blocks at (suc n) = rw (le-leb at at (omega arith)) (rising-blocks (at + 196) n)

body-rising : (body : Body) (state : ℕ) → rising 111 (map word_of (body_hits body state).0) ≡ true
unfolding body_hits word_hits link_looked wide word_places places_from low_places rising
body-rising (Voice (Header word)) state = ap (rising 111) (words-of 18 3 (draw 0 state % 9) (word_places 18 hdu_rows) (state_after 1 state))
body-rising (Voice (Link1 link low voice)) state = ap (rising 111) (link-words 6 state)
body-rising (Voice (Link2 sync low voice)) state = ap (rising 111) (link-words 4 state)
body-rising (Voice End) state = refl
body-rising (Voice (EndLink link)) state = ap (rising 111) (words-of 24 3 (draw 0 state % 4) (word_places 24 tdulc_rows) (state_after 1 state))
body-rising (Packet packet) state =
    let n = head_blocks (packet_head packet) in
    ap (rising 308) (words-of 196 (block_radius packet) 0 (places_from 308 196 n) (state_after 1 state)) ∙ rising-blocks 308 n

link-fit : (most state : ℕ) → Each IsFit (link_hits most state).0
link-fit most state =
    let field = field_hits 10 1 most (word_places 10 ldu_rows) state in
    each-joined IsFit field.0 (word_hits 16 2 0 (low_places ldu_rows) field.1).0
    (hits-fit 10 1 (draw 0 state % (most + 1)) (word_places 10 ldu_rows) (state_after 1 state) (omega arith)) (hits-fit 16 2 0 (low_places ldu_rows) field.1 (omega arith))

block_radius-fits : (packet : packet_type) → block_radius packet ≤ 196
block_radius-fits (confirmed_packet packet) = omega arith
block_radius-fits (plain_packet packet) = omega arith

body-fit : (body : Body) (state : ℕ) → Each IsFit (body_hits body state).0
unfolding body_hits word_hits
body-fit (Voice (Header word)) state = hits-fit 18 3 (draw 0 state % 9) (word_places 18 hdu_rows) (state_after 1 state) (omega arith)
body-fit (Voice (Link1 link low voice)) state = link-fit 6 state
body-fit (Voice (Link2 sync low voice)) state = link-fit 4 state
body-fit (Voice End) state = tt
body-fit (Voice (EndLink link)) state = hits-fit 24 3 (draw 0 state % 4) (word_places 24 tdulc_rows) (state_after 1 state) (omega arith)
body-fit (Packet packet) state =
    let n = head_blocks (packet_head packet) in (
      omega (arith, below-most (draw 0 state) 2),
      hits-fit 196 (block_radius packet) 0 (places_from 308 196 n) (state_after 1 state) (block_radius-fits packet),
    )

-- So of a unit's damaged bits.

module _ (body : Body) (state : ℕ) where
  abbrev pub behind : ℕ
  behind = state_after 1 (state_after 1 state)

  pub unit-fit : Each IsFit (unit_hits body state).0
  unfolding unit_hits word_hits
  unit-fit = (omega (arith, below-most (draw 0 state) 4), (omega (arith, below-most (draw 0 (state_after 1 state)) 11), body-fit body behind))

  unit-rising : rising 0 (map word_of (unit_hits body state).0) ≡ true
  unfolding unit_hits word_hits rising
  unit-rising = body-rising body behind

  pub unit-near : (sent : List Bool) → Each (IsNearAt sent (damaged (unit_hits body state).0 sent)) (unit_hits body state).0
  unit-near sent = near-damaged 0 (unit_hits body state).0 sent sent refl (λ k h. refl) unit-rising unit-fit

  pub parts-near : (sent received : List Bool) → Each (IsNearAt sent received) (unit_hits body state).0
      → (distance_of (part 0 48 received) (part 0 48 sent) ≤ 4) × (distance_of (part 48 63 received) (part 48 63 sent) ≤ 11) × Each (IsNearAt sent received) (body_hits body behind).0
  unfolding unit_hits word_hits
  parts-near sent received near =
      (omega (arith, near.0, below-most (draw 0 state) 4), omega (arith, near.1.0, below-most (draw 0 (state_after 1 state)) 11), near.1.1)
