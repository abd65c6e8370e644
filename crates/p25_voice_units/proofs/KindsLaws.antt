-- The decodings of voice data units, type by type: at the DUID of a type the definition computes to that type's, and a data unit with voice by which
-- of its parts were decoded.
use Rattle.std.proofs.Common.{◌≡◌, ℕ, Bool, List, [], Option, Some, None, option_map, ◌∷◌, ap₂, Ok, Err, Result, refl, ap, sym, ◌∙◌, ◌++◌, false, replicate}
use Rattle.p25_status.specs.{Outcomes.{read_or}, declared.fields.Field.{Field}, declared.read_outcome.ReadOutcome.{ReadOutcome}}
use Rattle.p25_unit_front.specs.Front.{unit_front}
use Rattle.p25_voice_units.specs.{declared.unit.VoiceUnit.{VoiceUnit}, declared.unit.VoiceUnit.TheVariants.{End}, declared.voice.VoiceFrame.{VoiceFrame}, FieldLayouts.{tdulc_layout}}
use Rattle.p25_voice_units.specs.{Images.{piece_bits, rows_bits, voice_body, voice_image_of}, Lengths.{voice_length_of}}
use Rattle.p25_voice_units.specs.Readings.{voice_in, low_in, missing, failing, header_in, header_from, link_in, ldu_from, ldu1_in, ldu2_in, tdulc_from, voice_reading_of}

-- bits that have the length of their type are as many as it states
pub long_by_kind : (duid kind count len : ℕ) → duid ≡ kind → voice_length_of kind ≡ Some count → voice_length_of duid ≡ Some len → len ≡ count
long_by_kind duid kind count len same is has =
    let e : Some len ≡ Some count = sym has ∙ ap voice_length_of same ∙ is in
    cc

pub reading-header : (bare : List Bool) → voice_reading_of 0 bare ≡ header_from (header_in bare)
unfolding voice_reading_of
reading-header bare = refl

pub reading-end : (bare : List Bool) → voice_reading_of 3 bare ≡ Ok End
unfolding voice_reading_of
reading-end bare = refl

pub reading-ldu1 : (bare : List Bool) → voice_reading_of 5 bare ≡ ldu1_in bare
unfolding voice_reading_of
reading-ldu1 bare = refl

pub reading-ldu2 : (bare : List Bool) → voice_reading_of 10 bare ≡ ldu2_in bare
unfolding voice_reading_of
reading-ldu2 bare = refl

pub reading-tdulc : (bare : List Bool) → voice_reading_of 15 bare ≡ tdulc_from (link_in tdulc_layout bare)
unfolding voice_reading_of
reading-tdulc bare = refl

-- the result of the reader of a type
pub reading_by_kind : (duid kind : ℕ) (bare : List Bool) (answer value : Result VoiceUnit (List Field))
    → duid ≡ kind → answer ≡ value → voice_reading_of kind bare ≡ value → answer ≡ voice_reading_of duid bare
reading_by_kind duid kind bare answer value same is read = is ∙ sym read ∙ ap (λ d. voice_reading_of d bare) (sym same)

module _ {X : Type 0} (field : Field) (unit : X → List ℕ → VoiceUnit) where
  -- a data unit with voice, all of whose parts were decoded
  pub ldu_whole : (answer : Option X) (low_first low_second : Option ℕ) (word : X) (first second : ℕ) → answer ≡ Some word → low_first ≡ Some first → low_second ≡ Some second
      → ldu_from field unit answer low_first low_second ≡ Ok (unit word (first ∷ second ∷ []))
  unfolding ldu_from
  ldu_whole answer low_first low_second word first second a b c =
      ap (λ x. ldu_from field unit x low_first low_second) a ∙ ap (λ x. ldu_from field unit (Some word) x low_second) b ∙ ap (ldu_from field unit (Some word) (Some first)) c

  -- or some part of which was not, by the number of corrected bits of each part
  pub ldu_fails : (answer low_first low_second : Option ℕ) (word : X) (first second : ℕ)
      → ((a b c : ℕ) → answer ≡ Some a → low_first ≡ Some b → low_second ≡ Some c → ⊥)
      → Err (failing field answer low_first low_second) ≡ ldu_from field unit (option_map (λ n. word) answer) (option_map (λ n. first) low_first) (option_map (λ n. second) low_second)
  unfolding ldu_from failing missing
  ldu_fails (Some a) (Some b) (Some c) word first second other = absurd (other a b c refl refl refl)
  ldu_fails (Some a) (Some b) None word first second other = refl
  ldu_fails (Some a) None (Some c) word first second other = refl
  ldu_fails (Some a) None None word first second other = refl
  ldu_fails None (Some b) (Some c) word first second other = refl
  ldu_fails None (Some b) None word first second other = refl
  ldu_fails None None (Some c) word first second other = refl
  ldu_fails None None None word first second other = refl

  -- and one whose word is a function of the decoding
  ldu_from-map : {S : Type 0} (f : S → X) (answer : Option S) (first second : Option ℕ)
      → ldu_from field (λ s low. unit (f s) low) answer first second ≡ ldu_from field unit (option_map f answer) first second
  unfolding ldu_from failing missing
  ldu_from-map f (Some s) (Some a) (Some b) = refl
  ldu_from-map f (Some s) (Some a) None = refl
  ldu_from-map f (Some s) None second = refl
  ldu_from-map f None first second = refl

-- a data unit with voice by the outcome of its parts, its word and its voice frames
pub ldu_read : {S X : Type 0} (field : Field) (unit : X → List ℕ → List VoiceFrame → VoiceUnit)
    (f : S → X) (outcome : ReadOutcome) (symbols : S) (low : List ℕ) (word : X) (voice : List VoiceFrame) (bare : List Bool) (reading : Option S)
    → ((made : S → List ℕ → VoiceUnit) → read_or outcome (made symbols low) ≡ ldu_from field made reading (low_in 0 bare) (low_in 1 bare)) → word ≡ f symbols → voice ≡ voice_in bare
    → read_or outcome (unit word low voice) ≡ ldu_from field (λ w octets. unit w octets (voice_in bare)) (option_map f reading) (low_in 0 bare) (low_in 1 bare)
ldu_read field unit f outcome symbols low word voice bare reading is made spoken =
    ap₂ (λ w v. read_or outcome (unit w low v)) made spoken
    ∙ is (λ s octets. unit (f s) octets (voice_in bare))
    ∙ ldu_from-map field (λ w octets. unit w octets (voice_in bare)) f reading (low_in 0 bare) (low_in 1 bare)

-- a terminator is sync, NID and nulls
pub image-end : (nac : ℕ) → voice_image_of nac End ≡ unit_front nac 3 ++ replicate 28 false
unfolding voice_image_of voice_body rows_bits piece_bits
image-end nac = refl
