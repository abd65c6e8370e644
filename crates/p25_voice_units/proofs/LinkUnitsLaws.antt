-- Data units with voice, LDU1 and LDU2: the common part of both types gives their decodings and their fixes.
use Rattle.std.proofs.Common.{◌≡◌, ℕ, ◌+◌, ◌≤◌, Bool, List, ◌++◌, length, slice_index, option_map, refl, ap, sym, ◌∙◌, arith}
use Rattle.p25_gf64.specs.declared.symbol.Sym.{Sym}
use Rattle.p25_hamming.specs.Hamming10Laws.{hamming10_reading_of}
use Rattle.p25_reed_solomon.specs.{Encoding.{rs_word}, RsReadings.{rs_erased_reading_of}, Words.{IsCode}}
use Rattle.p25_coded_fields.specs.{Fixes.{field_fixes_of}, Layouts.{Layout, field_layout, field_reading_of}}
use Rattle.p25_link.specs.Words.{link_symbols, link_of_symbols, sync_symbols, sync_of_symbols, IsWordOf}
use Rattle.p25_link.proofs.WordsLaws.{link_words, sync_words}
use Rattle.p25_status.specs.{Outcomes.{read_or, IfRead}, declared.fields.Field.{Field}, declared.fields.Field.TheVariants.{LinkControl as LinkField, EncryptionSync as SyncField}}
use Rattle.p25_status.specs.{declared.read_outcome.ReadOutcome.{ReadOutcome}, declared.read_outcome.ReadOutcome.TheVariants.{Read, Failing}}
use Rattle.p25_unit_front.specs.Front.{unit_front}
use Rattle.p25_voice_units.specs.{declared.unit.VoiceUnit.{VoiceUnit}, declared.unit.VoiceUnit.TheVariants.{Link1, Link2}, declared.voice.VoiceFrame.{VoiceFrame}, FieldLayouts.{word_places}}
use Rattle.p25_hamming.specs.Hamming10.{hamming10_word}
use Rattle.p25_voice_units.specs.{Fixes.{link_looked, low_fixes_of, voice_looked, AreFixes}, Images.{contents, rows_bits, voice_body, voice_image_of}, Layouts.{ldu_rows}}
use Rattle.p25_voice_units.specs.{Readings.{voice_in, low_in, link_in, sync_in, ldu_from, ldu1_in, ldu2_in, voice_reading_of}, Sendable.{IsSpeech, IsSendableVoice}}
use Rattle.p25_voice_units.proofs.{CodesLaws.{link_code, sync_code}, CountedLaws.{ldu_fixes}, KindsLaws.{ldu_read, reading-ldu1, reading-ldu2}, ReadingLaws.{unit_read}}

-- the coded field of a data unit with voice, by the number of its information symbols
abbrev pub ldu_layout : ℕ → Layout
ldu_layout k = field_layout (word_places 10 ldu_rows) 10 1 hamming10_reading_of (rs_erased_reading_of 24 k) k

-- the decoding of a data unit with voice: the symbols of its word, its octets of low speed data, and the number of corrected bits
pub record AreParts (k : ℕ) (field : Field) (bare : List Bool) (outcome : ReadOutcome) (symbols : List Sym) (low : List ℕ) : Type 0 where
  pub value : (made : List Sym → List ℕ → VoiceUnit) → read_or outcome (made symbols low) ≡ ldu_from field made (field_reading_of (ldu_layout k) bare) (low_in 0 bare) (low_in 1 bare)
  pub wrong : IfRead outcome (λ wrong. wrong
      ≡ field_fixes_of hamming10_word 10 1 (word_places 10 ldu_rows) (rs_word 24 k symbols) bare + (low_fixes_of 0 (slice_index low 0) bare + low_fixes_of 1 (slice_index low 1) bare))
  pub most : IfRead outcome (λ wrong. wrong ≤ 608)

-- the decoding of bits is the data unit, by its DUID, or its failing fields
pub record IsUnitRead (duid : ℕ) (bare : List Bool) (outcome : ReadOutcome) (unit : VoiceUnit) : Type 0 where
  pub value : read_or outcome unit ≡ voice_reading_of duid bare
  pub wrong : IfRead outcome (λ wrong. AreFixes unit bare wrong)
  pub most : IfRead outcome (λ wrong. wrong ≤ 864)

-- a type of data unit with voice: its word and the word's symbols, and the data unit of word, octets and voice
pub record IsVoiceKind {W : Type 0} (duid k : ℕ) (field : Field) (unit : W → List ℕ → List VoiceFrame → VoiceUnit) (symbols_of : W → List Sym) (of_symbols : List Sym → W) : Type 0 where
  pub code : IsCode 24 k
  pub count_of : (word : W) → length (symbols_of word) ≡ k
  pub reading : (bare : List Bool) → voice_reading_of duid bare
      ≡ ldu_from field (λ word low. unit word low (voice_in bare)) (option_map of_symbols (field_reading_of (ldu_layout k) bare)) (low_in 0 bare) (low_in 1 bare)
  pub speech : (word : W) (low : List ℕ) (voice : List VoiceFrame) → IsSendableVoice (unit word low voice) → IsSpeech low voice
  pub looked : (word : W) (low : List ℕ) (voice : List VoiceFrame) → voice_looked (unit word low voice) ≡ link_looked
  pub image : (nac : ℕ) (word : W) (low : List ℕ) (voice : List VoiceFrame)
      → voice_image_of nac (unit word low voice) ≡ unit_front nac duid ++ rows_bits (contents hamming10_word 1 (rs_word 24 k (symbols_of word)) low voice) ldu_rows

pub ldu1_kind : IsVoiceKind 5 12 LinkField Link1 link_symbols link_of_symbols
unfolding ldu1_in link_in IsSendableVoice voice_looked voice_image_of voice_body
ldu1_kind = record { code = link_code; count_of = link_words.count_of; reading = reading-ldu1; speech = λ _ _ _ keeps. keeps.speech; looked = λ _ _ _. refl; image = λ _ _ _ _. refl }

pub ldu2_kind : IsVoiceKind 10 16 SyncField Link2 sync_symbols sync_of_symbols
unfolding ldu2_in sync_in IsSendableVoice voice_looked voice_image_of voice_body
ldu2_kind = record { code = sync_code; count_of = sync_words.count_of; reading = reading-ldu2; speech = λ _ _ _ keeps. keeps.speech; looked = λ _ _ _. refl; image = λ _ _ _ _. refl }

-- at most 608 are at most 864
at_most : (outcome : ReadOutcome) → IfRead outcome (λ wrong. wrong ≤ 608) → IfRead outcome (λ wrong. wrong ≤ 864)
at_most (Failing fields) few = tt
at_most (Read wrong) few = omega arith

-- if a field fails, the data unit does not matter
failing_any : (outcome : ReadOutcome) (fields : List Field) (x y : VoiceUnit) → outcome ≡ Failing fields → read_or outcome x ≡ read_or outcome y
failing_any outcome fields x y is = ap (λ o. read_or o x) is ∙ sym (ap (λ o. read_or o y) is)

-- the decoding of a data unit of such a type
module _ {W : Type 0} (duid k : ℕ) (field : Field) (unit : W → List ℕ → List VoiceFrame → VoiceUnit) (symbols_of : W → List Sym) (of_symbols : List Sym → W)
    (kind : IsVoiceKind duid k field unit symbols_of of_symbols) (bare : List Bool) (symbols : List Sym) (low : List ℕ) where
  -- its decoding
  kind_value : (outcome : ReadOutcome) (word : W) (voice : List VoiceFrame) → AreParts k field bare outcome symbols low
      → word ≡ of_symbols symbols → voice ≡ voice_in bare → read_or outcome (unit word low voice) ≡ voice_reading_of duid bare
  kind_value outcome word voice parts made spoken =
      ldu_read field unit of_symbols outcome symbols low word voice bare (field_reading_of (ldu_layout k) bare) parts.value made spoken ∙ sym (kind.reading bare)

  -- and the number of corrected bits
  kind_wrong : (outcome : ReadOutcome) (word : W) (voice : List VoiceFrame) → 1680 ≤ length bare → AreParts k field bare outcome symbols low
      → read_or outcome (unit word low voice) ≡ voice_reading_of duid bare → symbols_of word ≡ symbols → IfRead outcome (λ wrong. AreFixes (unit word low voice) bare wrong)
  kind_wrong (Failing fields) word voice there parts read back = tt
  kind_wrong (Read wrong) word voice there parts read back =
      let made = unit word low voice in
      let sendable = (unit_read duid bare made (sym read)).sendable in
      ldu_fixes made duid k (symbols_of word) low voice bare wrong kind.code (kind.count_of word) (kind.speech word low voice sendable) there
      (kind.looked word low voice) (λ nac. kind.image nac word low voice) (parts.wrong ∙ ap (λ info.
      field_fixes_of hamming10_word 10 1 (word_places 10 ldu_rows) (rs_word 24 k info) bare + (low_fixes_of 0 (slice_index low 0) bare + low_fixes_of 1 (slice_index low 1) bare)) (sym back))

  pub kind_read : (outcome : ReadOutcome) (word : W) (voice : List VoiceFrame) (is : ℕ) → is ≡ duid → 1680 ≤ length bare → AreParts k field bare outcome symbols low
      → IsWordOf symbols_of of_symbols symbols word → voice ≡ voice_in bare → IsUnitRead is bare outcome (unit word low voice)
  kind_read outcome word voice is same there parts made spoken =
      let value = kind_value outcome word voice parts made.value spoken in
      record { value = value ∙ ap (λ d. voice_reading_of d bare) (sym same); wrong = kind_wrong outcome word voice there parts value made.back; most = at_most outcome parts.most }

  pub kind_fails : (outcome : ReadOutcome) (fields : List Field) (old : VoiceUnit) (is : ℕ) → is ≡ duid → AreParts k field bare outcome symbols low
      → outcome ≡ Failing fields → read_or outcome old ≡ voice_reading_of is bare
  kind_fails outcome fields old is same parts fails =
      failing_any outcome fields old (unit (of_symbols symbols) low (voice_in bare)) fails
      ∙ kind_value outcome (of_symbols symbols) (voice_in bare) parts refl refl ∙ ap (λ d. voice_reading_of d bare) (sym same)
