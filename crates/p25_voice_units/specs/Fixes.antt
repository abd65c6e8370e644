-- The examined positions of voice data units after sync and NID: bits there that differ from the data unit's are counted as fixes.
use Rattle.std.specs.{Prelude.{◌≡◌, ℕ, Bool, List, [], ◌++◌, map, slice_index}, List.{flat_map}}
use Rattle.p25_bits.specs.{Bits.{bits_of, part}, Distance.{distance_of}}
use Rattle.p25_voice_units.specs.{declared.unit.VoiceUnit.{VoiceUnit}, declared.unit.VoiceUnit.TheVariants.{Header, Link1, Link2, End, EndLink}}
use Rattle.p25_hamming.specs.Lsd16.{lsd16_word}
use Rattle.p25_voice_units.specs.{Layouts.{hdu_rows, ldu_rows, tdulc_rows}, FieldLayouts.{word_places}, Images.{voice_image_of}}
use Rattle.p25_voice_units.specs.Readings.{low_places}

-- positions with the same number of bits each
unfoldable pub wide : ℕ → List ℕ → List (ℕ × ℕ)
wide width places = map (λ at. (at, width)) places

-- the examined positions of an LDU1 or an LDU2: its inner words and its low speed data words
unfoldable pub link_looked : List (ℕ × ℕ)
link_looked = wide 10 (word_places 10 ldu_rows) ++ wide 16 (low_places ldu_rows)

-- the examined positions of a data unit (HDU, LDU1, LDU2, TDU or TDULC), as a position and a number of bits each: its inner words and its low speed
-- data words
unfoldable pub voice_looked : VoiceUnit → List (ℕ × ℕ)
voice_looked (Header word) = wide 18 (word_places 18 hdu_rows)
voice_looked (Link1 link low voice) = link_looked
voice_looked (Link2 sync low voice) = link_looked
voice_looked End = []
voice_looked (EndLink link) = wide 24 (word_places 24 tdulc_rows)

-- the bits at positions, one run after the other
unfoldable pub bits_at : List (ℕ × ℕ) → List Bool → List Bool
bits_at places bits = flat_map (λ place. part place.0 place.1 bits) places

-- the number of examined positions of a data unit in which received bits differ from its image
unfoldable pub voice_fixes_of : VoiceUnit → List Bool → List Bool → ℕ
voice_fixes_of unit received image = distance_of (bits_at (voice_looked unit) received) (bits_at (voice_looked unit) image)

-- a number is that of a data unit, whatever network access code its image has
pub record AreFixes (unit : VoiceUnit) (received : List Bool) (fixes : ℕ) : Type 0 where
  pub value : (nac : ℕ) → fixes ≡ voice_fixes_of unit received (voice_image_of nac unit)

-- the number of bits in which a received low speed data (LSD) word differs from the codeword of an octet
unfoldable pub low_fixes_of : ℕ → ℕ → List Bool → ℕ
low_fixes_of i octet received = distance_of (part (slice_index (low_places ldu_rows) i) 16 received) (lsd16_word (bits_of 8 octet))
