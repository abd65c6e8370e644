-- The fixes of a data unit by its parts. In the image the inner words are those of the data unit's symbols, and the low speed data words those of its octets.
-- So the examined bits differ from them in the number of fixes.
use Rattle.std.proofs.{Common.{◌≡◌, ℕ, ◌+◌, ◌≤◌, Bool, List, [], ◌++◌, length, slice_index, All, refl, ap, sym, ◌∙◌, arith, lit<}, lemmas.List.{append-nil}, lemmas.List.Folds.{flat_map-map}}
use Rattle.std.specs.Bool.{beq}
use Rattle.p25_bits.specs.{Bits.{bits_of, part}, Distance.{distance_of}}
use Rattle.p25_bits.proofs.{DistanceLaws.{distance_by-append, distance_of-same}, PartLaws.{length-part}}
use Rattle.p25_gf64.specs.declared.symbol.Sym.{Sym}
use Rattle.p25_reed_solomon.specs.{Encoding.{rs_word}, Words.{IsCode}}
use Rattle.p25_coded_fields.specs.{Fixes.{inner_bits, field_fixes_of}, Layouts.{field_bits, places_from}}
use Rattle.p25_coded_fields.proofs.CodesLaws.{all_end}
use Rattle.p25_voice_units.specs.{declared.layout.Piece.TheVariants.{Nulls}, declared.unit.VoiceUnit.{VoiceUnit, TheVariants.{End}}, declared.voice.VoiceFrame.{VoiceFrame}, FieldLayouts.{word_places}}
use Rattle.p25_voice_units.specs.Fixes.{wide, bits_at, link_looked, low_fixes_of, voice_looked, voice_fixes_of, AreFixes}
use Rattle.p25_hamming.specs.Hamming10.{hamming10_word}
use Rattle.p25_hamming.specs.Lsd16.{lsd16_word}
use Rattle.p25_voice_units.specs.{Images.{contents, piece_bits, rows_bits, voice_image_of}, Layouts.{ldu_rows}, Readings.{low_places}, Sendable.{IsSpeech}}
use Rattle.p25_unit_front.specs.Front.{unit_front}
use Rattle.p25_voice_units.proofs.{FixesLaws.{fixes-append}, FormLaws.{length-unit, unit_parts, words_in_unit}, ImagesLaws.{hamming10_carried, ldu_suits}}

-- positions of one width
bits_at-inner : (width : ℕ) (places : List ℕ) (bits : List Bool) → bits_at (wide width places) bits ≡ inner_bits width places bits
unfolding bits_at wide inner_bits
bits_at-inner width places bits =
    let run : ℕ × ℕ → List Bool = λ place. part place.0 place.1 bits in
    flat_map-map run (λ at. (at, width)) places

-- the number of bits that differ from a transmitted field
field_distance : (encoding : List Bool → List Bool) (width each : ℕ) (places : List ℕ) (symbols : List Sym) (received image : List Bool)
    → inner_bits width places image ≡ field_bits encoding each (length places) symbols
    → distance_of (bits_at (wide width places) received) (bits_at (wide width places) image) ≡ field_fixes_of encoding width each places symbols received
unfolding field_fixes_of
field_distance encoding width each places symbols received image is =
    rw (bits_at-inner width places received, bits_at-inner width places image, is) refl

-- the two low speed words
low_bits : (bits : List Bool) → bits_at (wide 16 (low_places ldu_rows)) bits ≡ part 1504 16 bits ++ part 1520 16 bits
unfolding bits_at wide low_places
low_bits bits = rw (append-nil (part 1520 16 bits)) refl

low_distance : (first second : ℕ) (received image : List Bool)
    → 1680 ≤ length received → 1680 ≤ length image → part 1504 16 image ≡ lsd16_word (bits_of 8 first) → part 1520 16 image ≡ lsd16_word (bits_of 8 second)
    → distance_of (bits_at (wide 16 (low_places ldu_rows)) received) (bits_at (wide 16 (low_places ldu_rows)) image) ≡ low_fixes_of 0 first received + low_fixes_of 1 second received
unfolding low_fixes_of low_places
low_distance first second received image there there_image is_first is_second =
    let inside : 1504 + 16 ≤ length received = omega arith in
    let inside_image : 1504 + 16 ≤ length image = omega arith in
    rw (low_bits received, low_bits image, ← is_first, ← is_second)
    (distance_by-append beq (part 1504 16 received) (part 1520 16 received)
    (part 1504 16 image) (part 1520 16 image) (length-part 1504 16 received inside ∙ sym (length-part 1504 16 image inside_image)))

-- the inner words of a data unit with voice are within it
link_words_there : (bits : List Bool) → 1680 ≤ length bits → All (λ at. at + 10 ≤ length bits) (word_places 10 ldu_rows)
unfolding word_places places_from
link_words_there bits there = all_end 10 1680 (length bits) (word_places 10 ldu_rows) refl there

-- a data unit with voice
link_distance : (symbols : List Sym) (first second : ℕ) (received image : List Bool) → 1680 ≤ length received → 1680 ≤ length image
    → inner_bits 10 (word_places 10 ldu_rows) image ≡ field_bits hamming10_word 1 (length (word_places 10 ldu_rows)) symbols
    → part 1504 16 image ≡ lsd16_word (bits_of 8 first) → part 1520 16 image ≡ lsd16_word (bits_of 8 second)
    → distance_of (bits_at link_looked received) (bits_at link_looked image)
    ≡ field_fixes_of hamming10_word 10 1 (word_places 10 ldu_rows) symbols received + (low_fixes_of 0 first received + low_fixes_of 1 second received)
unfolding link_looked
link_distance symbols first second received image there there_image is is_first is_second =
    let places = word_places 10 ldu_rows in
    rw (
      fixes-append 10 16 places (low_places ldu_rows) received image (link_words_there received there) (link_words_there image there_image),
      field_distance hamming10_word 10 1 places symbols received image is,
      low_distance first second received image there there_image is_first is_second,
    ) refl

-- the fixes of a data unit by its coded field alone, from its examined positions and its image
pub coded_fixes : (unit : VoiceUnit) (encoding : List Bool → List Bool)
    (width each : ℕ) (places : List ℕ) (symbols : List Sym) (received : List Bool) (fixes : ℕ) → voice_looked unit ≡ wide width places
    → ((nac : ℕ) → inner_bits width places (voice_image_of nac unit) ≡ field_bits encoding each (length places) symbols)
    → fixes ≡ field_fixes_of encoding width each places symbols received → AreFixes unit received fixes
unfolding voice_fixes_of
coded_fixes unit encoding width each places symbols received fixes looked carried count = record {
  value = λ nac.
      let image = voice_image_of nac unit in
      rw (count, looked) (sym (field_distance encoding width each places symbols received image (carried nac)));
}

-- the fixes of a data unit with voice by the information of its coded field, from its image and its examined positions
pub ldu_fixes : (unit : VoiceUnit) (duid k : ℕ) (info : List Sym) (low : List ℕ) (voice : List VoiceFrame) (received : List Bool) (fixes : ℕ)
    → IsCode 24 k → length info ≡ k → IsSpeech low voice → 1680 ≤ length received
    → voice_looked unit ≡ link_looked → ((nac : ℕ) → voice_image_of nac unit ≡ unit_front nac duid ++ rows_bits (contents hamming10_word 1 (rs_word 24 k info) low voice) ldu_rows)
    → fixes ≡ field_fixes_of hamming10_word 10 1 (word_places 10 ldu_rows) (rs_word 24 k info) received + (low_fixes_of 0 (slice_index low 0) received + low_fixes_of 1 (slice_index low 1) received)
    → AreFixes unit received fixes
unfolding voice_fixes_of piece_bits
ldu_fixes unit duid k info low voice received fixes code is speech there looked made count = record {
  value = λ nac.
      let image = voice_image_of nac unit in
      let symbols = rs_word 24 k info in
      let carries = hamming10_carried symbols low voice speech in
      let suits = ldu_suits k info low voice code is speech in
      let parts = unit_parts carries suits nac duid image (made nac) in
      let long : length image ≡ 1680 = ap length (made nac) ∙ length-unit carries suits nac duid in
      rw (count, looked)
      (sym (link_distance symbols (slice_index low 0) (slice_index low 1) received image there
      (omega arith) (words_in_unit carries suits nac duid image (made nac)) (parts 14 (0, Nulls 0) (lit< tt)) (parts 15 (0, Nulls 0) (lit< tt))));
}

pub end_fixes : (received : List Bool) → AreFixes End received 0
unfolding voice_fixes_of voice_looked bits_at
end_fixes received = record { value = λ nac. sym (distance_of-same []) }
