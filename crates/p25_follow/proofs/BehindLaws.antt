-- The decoding of a data unit after sync and NID is the same whatever these are: all examined bits are at position 112 or after it.
use Rattle.std.proofs.Common.{◌≡◌, ℕ, ◌+◌, ◌*◌, ◌≤◌, Bool, true, ◌&&◌, nat_le, List, [], ◌∷◌, map, take, drop, Option, Result, Ok, Err, refl, ap, arith}
use Rattle.std.proofs.lemmas.Bool.Decides.{nat_tests}
use Rattle.std.specs.{Prelude.{option_map, slice_index}, List.{flat_map}}
use Rattle.p25_bits.specs.Bits.{field_of, part}
use Rattle.p25_bits.proofs.NumbersLaws.{each_below-same, joined_below-same}
use Rattle.p25_hamming.specs.Lsd16Laws.{lsd16_reading_of}
use Rattle.p25_coded_fields.specs.Layouts.{Layout, field_reading_of, outer_word_of, places_from, received_in, symbols_or_erasures}
use Rattle.p25_status.specs.{declared.fields.Field.{Field}}
use Rattle.p25_voice_units.specs.{FieldLayouts.{header_layout, link_layout, sync_layout, tdulc_layout, word_places}, Layouts.{ldu_rows}}
use Rattle.p25_voice_units.specs.Readings.{frame_in, frame_places, header_in, ldu1_in, ldu2_in, link_in, low_in, low_places, sync_in, voice_in, voice_reading_of}
use Rattle.p25_packet_blocks.specs.{declared.head.PacketHead.{PacketHead}}
use Rattle.p25_packet_blocks.specs.Heads.{head_blocks}
use Rattle.p25_packet_blocks.specs.Reading.{block_bits, head_reading_of, octets_read, packet_from, packet_of_head, packet_reading_of, slot_from, slots_read}
use Rattle.p25_trellis.specs.Nearest.{half_octets, three_quarter_octets}
use Rattle.p25_units.specs.Readings.{body_reading_of}
use Rattle.p25_follow.proofs.StepLaws.{and_left-true, and_right-true}

-- bits without status symbols are the same after sync and NID
pub record AreAlikeBehind (first second : List Bool) : Type 0 where
  pub same : (at : ℕ) → 112 ≤ at → drop at first ≡ drop at second

-- all positions are after sync and NID
all_behind : List ℕ → Bool
all_behind [] = true
all_behind (at ∷ places) = nat_le 112 at && all_behind places

first-behind : (at : ℕ) → nat_le 112 at ≡ true → 112 ≤ at
first-behind at is = grind (arith, nat_tests)

module _ (first second : List Bool) (alike : AreAlikeBehind first second) where
  part-alike : (at count : ℕ) → 112 ≤ at → part at count first ≡ part at count second
  part-alike at count behind = ap (take count) (alike.same at behind)

  -- ---- coded fields, voice frames and low speed data
  received-alike : (layout : Layout) (places : List ℕ) → all_behind places ≡ true
      → flat_map (λ (at : ℕ). symbols_or_erasures layout.each (layout.inner_reading (part at layout.size first))) places
      ≡ flat_map (λ (at : ℕ). symbols_or_erasures layout.each (layout.inner_reading (part at layout.size second))) places
  unfolding all_behind
  received-alike layout [] all = refl
  received-alike layout (at ∷ places) all =
      rw (part-alike at layout.size (first-behind at (and_left-true (nat_le 112 at) (all_behind places) all)), received-alike layout places (and_right-true (nat_le 112 at) (all_behind places) all))

  field-alike : (layout : Layout) → all_behind layout.places ≡ true → field_reading_of layout first ≡ field_reading_of layout second
  unfolding field_reading_of outer_word_of received_in
  field-alike layout all = ap (λ (r : List (Option _)). option_map (take layout.information) (layout.outer_reading r)) (received-alike layout layout.places all)

  frames-alike : (places : List ℕ) → all_behind places ≡ true → map (λ (at : ℕ). frame_in at first) places ≡ map (λ (at : ℕ). frame_in at second) places
  unfolding frame_in all_behind
  frames-alike [] all = refl
  frames-alike (at ∷ places) all =
      rw (alike.same at (first-behind at (and_left-true (nat_le 112 at) (all_behind places) all)), frames-alike places (and_right-true (nat_le 112 at) (all_behind places) all))

  voice-alike : voice_in first ≡ voice_in second
  unfolding voice_in frame_places all_behind
  voice-alike = frames-alike (frame_places ldu_rows) refl

  low-alike : (i : ℕ) → 112 ≤ slice_index (low_places ldu_rows) i → low_in i first ≡ low_in i second
  unfolding low_in
  low-alike i behind =
      ap (λ (bits : List Bool). option_map (λ (word : List Bool). field_of (take 8 word)) (lsd16_reading_of bits)) (part-alike (slice_index (low_places ldu_rows) i) 16 behind)

  low-places : (112 ≤ slice_index (low_places ldu_rows) 0) × (112 ≤ slice_index (low_places ldu_rows) 1)
  unfolding low_places
  low-places =
      let zeroth : slice_index (low_places ldu_rows) 0 ≡ 1504 = refl in
      let oneth : slice_index (low_places ldu_rows) 1 ≡ 1520 = refl in
      (omega (arith, zeroth), omega (arith, oneth))

  header-alike : header_in first ≡ header_in second
  unfolding header_in word_places places_from all_behind
  header-alike = rw (field-alike header_layout refl)

  link-alike : link_in link_layout first ≡ link_in link_layout second
  unfolding link_in word_places places_from all_behind
  link-alike = rw (field-alike link_layout refl)

  tdulc-alike : link_in tdulc_layout first ≡ link_in tdulc_layout second
  unfolding link_in word_places places_from all_behind
  tdulc-alike = rw (field-alike tdulc_layout refl)

  sync-alike : sync_in first ≡ sync_in second
  unfolding sync_in word_places places_from all_behind
  sync-alike = rw (field-alike sync_layout refl)

  ldu1-alike : ldu1_in first ≡ ldu1_in second
  unfolding ldu1_in
  ldu1-alike = rw (voice-alike, link-alike, low-alike 0 low-places.0, low-alike 1 low-places.1)

  ldu2-alike : ldu2_in first ≡ ldu2_in second
  unfolding ldu2_in
  ldu2-alike = rw (voice-alike, sync-alike, low-alike 0 low-places.0, low-alike 1 low-places.1)

  voice_reading-alike : (duid : ℕ) → voice_reading_of duid first ≡ voice_reading_of duid second
  unfolding voice_reading_of
  voice_reading-alike duid = rw (header-alike, ldu1-alike, ldu2-alike, tdulc-alike)

  -- ---- packets
  block-alike : (j : ℕ) → block_bits first j ≡ block_bits second j
  block-alike j = part-alike (308 + 196 * j) 196 (omega arith)

  slots-alike : (n : ℕ) → slots_read n first ≡ slots_read n second
  unfolding slots_read
  slots-alike n =
      each_below-same n (λ (j : ℕ). slot_from (three_quarter_octets (block_bits first j))) (λ (j : ℕ). slot_from (three_quarter_octets (block_bits second j)))
      (λ j less. ap (λ (bits : List Bool). slot_from (three_quarter_octets bits)) (block-alike j))

  octets-alike : (n : ℕ) → octets_read n first ≡ octets_read n second
  unfolding octets_read
  octets-alike n =
      joined_below-same n (λ (j : ℕ). half_octets (block_bits first j)) (λ (j : ℕ). half_octets (block_bits second j)) (λ j less. ap half_octets (block-alike j))

  pub head_reading-alike : head_reading_of first ≡ head_reading_of second
  unfolding head_reading_of
  head_reading-alike = rw (part-alike 112 196 (omega arith))

  of_head-alike : (head : PacketHead) → packet_of_head head first ≡ packet_of_head head second
  unfolding packet_of_head
  of_head-alike head = rw (slots-alike (head_blocks head), octets-alike (head_blocks head))

  from-alike : (head : Result PacketHead Field) → packet_from head first ≡ packet_from head second
  unfolding packet_from
  from-alike (Err field) = refl
  from-alike (Ok head) = of_head-alike head

  packet_reading-alike : packet_reading_of first ≡ packet_reading_of second
  unfolding packet_reading_of
  packet_reading-alike = rw (head_reading-alike, from-alike (head_reading_of second))

  -- the contents of a data unit, or the fields of it that fail
  pub body_reading-alike : (duid : ℕ) → body_reading_of duid first ≡ body_reading_of duid second
  unfolding body_reading_of
  body_reading-alike duid = rw (packet_reading-alike, voice_reading-alike duid)
