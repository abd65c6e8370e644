-- A refused voice data unit has a field that fails: by its type, and by the decoding of each of its fields.
use Rattle.std.proofs.Common.{◌≡◌, ℕ, ◌<◌, Bool, List, ◌∷◌, length, Option, Some, None, Result, Ok, Err, refl, sym, ◌∙◌, subst, arith}
use Rattle.std.specs.Prelude.{IfErr}
use Rattle.p25_status.specs.{declared.fields.Field.{Field}, declared.fields.Field.TheVariants.{LinkControl as LinkField, EncryptionSync as SyncField}}
use Rattle.p25_link.specs.{declared.encryption.HeaderWord.{HeaderWord}, declared.link_control.LinkControl.{LinkControl}}
use Rattle.p25_voice_units.specs.{declared.unit.VoiceUnit.{VoiceUnit}, declared.unit.VoiceUnit.TheVariants.{Link1, Link2, End}, FieldLayouts.{link_layout, tdulc_layout}, Lengths.{voice_length_of}}
use Rattle.p25_voice_units.specs.Readings.{missing, failing, header_from, ldu_from, tdulc_from, ldu1_in, ldu2_in, header_in, link_in, sync_in, low_in, voice_in, voice_reading_of}
use Rattle.p25_voice_units.proofs.{KindsLaws.{reading-header, reading-end, reading-ldu1, reading-ldu2, reading-tdulc}, LengthsLaws.{length-cases}}

-- there is a first field
pub first_fails : (fields : List Field) (field : Field) (others : List Field) → field ∷ others ≡ fields → 0 < length fields
first_fails fields field others is = subst (λ (xs : List Field). 0 < length xs) is (omega arith)

-- a result with a field has at least one
some_field : {X : Type 0} (field : Field) (others fields : List Field) (answer : Result X (List Field)) → answer ≡ Err (field ∷ others) → answer ≡ Err fields → 0 < length fields
some_field field others fields answer is e = first_fails fields field others (let two : Err (field ∷ others) ≡ Err fields = sym is ∙ e in cc)

header_fails : (found : Option HeaderWord) (fields : List Field) → header_from found ≡ Err fields → 0 < length fields
unfolding header_from
header_fails (Some word) fields e = absurd (cc)
header_fails None fields e = some_field _ _ fields (header_from None) refl e

tdulc_fails : (found : Option LinkControl) (fields : List Field) → tdulc_from found ≡ Err fields → 0 < length fields
unfolding tdulc_from
tdulc_fails (Some link) fields e = absurd (cc)
tdulc_fails None fields e = some_field _ _ fields (tdulc_from None) refl e

ldu_fails : {X : Type 0} (field : Field) (unit : X → List ℕ → VoiceUnit) (found : Option X) (first second : Option ℕ) (fields : List Field)
    → ldu_from field unit found first second ≡ Err fields → 0 < length fields
unfolding ldu_from failing missing
ldu_fails field unit (Some word) (Some first) (Some second) fields e = absurd (cc)
ldu_fails field unit (Some word) (Some first) None fields e = some_field _ _ fields (ldu_from field unit (Some word) (Some first) None) refl e
ldu_fails field unit (Some word) None second fields e = some_field _ _ fields (ldu_from field unit (Some word) None second) refl e
ldu_fails field unit None first second fields e = some_field _ _ fields (ldu_from field unit None first second) refl e

pub voice_fails : (bare : List Bool) (fields : List Field) (duid count : ℕ) → voice_length_of duid ≡ Some count → voice_reading_of duid bare ≡ Err fields → 0 < length fields
unfolding ldu1_in ldu2_in
voice_fails bare fields =
    length-cases (λ duid count. voice_reading_of duid bare ≡ Err fields → 0 < length fields)
    (λ e. header_fails (header_in bare) fields (sym (reading-header bare) ∙ e))
    (λ e. let two : Ok End ≡ Err fields = sym (reading-end bare) ∙ e in absurd (cc))
    (λ e. ldu_fails LinkField (λ link low. Link1 link low (voice_in bare)) (link_in link_layout bare) (low_in 0 bare) (low_in 1 bare) fields (sym (reading-ldu1 bare) ∙ e))
    (λ e. ldu_fails SyncField (λ sync low. Link2 sync low (voice_in bare)) (sync_in bare) (low_in 0 bare) (low_in 1 bare) fields (sym (reading-ldu2 bare) ∙ e))
    (λ e. tdulc_fails (link_in tdulc_layout bare) fields (sym (reading-tdulc bare) ∙ e))

-- so it is with a decoding of it
pub some_fields : (duid count : ℕ) (bare : List Bool) (reading : Result VoiceUnit (List Field))
    → voice_length_of duid ≡ Some count → reading ≡ voice_reading_of duid bare → IfErr reading (λ fields. 0 < length fields)
some_fields duid count bare (Ok unit) long is = tt
some_fields duid count bare (Err fields) long is = voice_fails bare fields duid count long (sym is)
