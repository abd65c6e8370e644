-- The decoding of voice data units: a decoded data unit has the type of its DUID, and the invariant of its type, because each part is made of the
-- right number of bits.
use Rattle.std.proofs.Common.{◌≡◌, ℕ, ◌<◌, Bool, List, [], ◌∷◌, length, take, drop, slice_index, get_or, Option, Some, None, option_map, Ok, Err, Result, All, refl, ◌∙◌, subst}
use Rattle.std.proofs.{lemmas.List.{length-map}, lemmas.List.Elements.{All-nil, All-cons, All-map}}
use Rattle.p25_bits.specs.{Bits.{field_of, part}, Numbers.{numbers_from}}
use Rattle.p25_bits.proofs.NumbersLaws.{All-numbers_from, field-lt, length-numbers_from}
use Rattle.p25_gf64.specs.declared.symbol.Sym.{Sym}
use Rattle.p25_hamming.specs.Lsd16Laws.{lsd16_reading_of}
use Rattle.p25_link.specs.Symbols.{symbol_bits}
use Rattle.p25_link.specs.Words.{header_of_bits, header_of_symbols, link_of_bits, link_of_symbols, sync_of_bits, sync_of_symbols, AreNineOctets, IsHeaderWord, IsLinkControl, IsEncryptionSync}
use Rattle.p25_link.specs.{declared.encryption.HeaderWord.{HeaderWord}, declared.link_control.LinkControl.{LinkControl}}
use Rattle.p25_status.specs.{declared.fields.Field.{Field}, declared.fields.Field.TheVariants.{LinkControl as LinkField, EncryptionSync as SyncField}}
use Rattle.p25_coded_fields.specs.Layouts.{field_reading_of}
use Rattle.p25_voice_units.specs.{declared.unit.VoiceUnit.{VoiceUnit}, declared.unit.VoiceUnit.TheVariants.{Link1, Link2, End}, Layouts.{ldu_rows}}
use Rattle.p25_voice_units.specs.{FieldLayouts.{link_layout, sync_layout, header_layout, tdulc_layout}, Lengths.{voice_duid}}
use Rattle.p25_voice_units.specs.Readings.{frame_places, low_places, frame_in, voice_in, low_in, header_in, link_in, sync_in, header_from, ldu_from, ldu1_in, ldu2_in, tdulc_from, voice_reading_of}
use Rattle.p25_voice_units.specs.Sendable.{IsVoiceFrame, IsSpeech, IsSendableVoice}
use Rattle.p25_voice_units.proofs.{LengthsLaws.{by_duid-cases}, ReadLaws.{nine_frames}}

-- words of symbols have the invariants of their types
nine_octets : (bits : List Bool) → AreNineOctets (numbers_from 8 9 bits)
nine_octets bits = record { long = length-numbers_from 8 9 bits; small = All-numbers_from 8 9 bits }

header_keeps : (symbols : List Sym) → IsHeaderWord (header_of_symbols symbols)
unfolding header_of_symbols header_of_bits
header_keeps symbols =
    let bits = symbol_bits symbols in
    record { mi = nine_octets bits; mfid = field-lt 8 72 bits; algid = field-lt 8 80 bits; kid = field-lt 16 88 bits; tgid = field-lt 16 104 bits }

link_keeps : (symbols : List Sym) → IsLinkControl (link_of_symbols symbols)
unfolding link_of_symbols link_of_bits
link_keeps symbols = record { octets = nine_octets (symbol_bits symbols) }

sync_keeps : (symbols : List Sym) → IsEncryptionSync (sync_of_symbols symbols)
unfolding sync_of_symbols sync_of_bits
sync_keeps symbols = let bits = symbol_bits symbols in record { mi = nine_octets bits; algid = field-lt 8 72 bits; kid = field-lt 16 80 bits }

-- so does a decoded word
read_keeps : {S W : Type 0} (P : W → Type 0) (f : S → W) (value : Option S) (word : W) → ((s : S) → P (f s)) → option_map f value ≡ Some word → P word
read_keeps P f None word keeps is = absurd (cc)
read_keeps P f (Some s) word keeps is = let same : f s ≡ word = cc in subst P same (keeps s)

-- low speed data and voice
low_keeps : (i octet : ℕ) (bare : List Bool) → low_in i bare ≡ Some octet → octet < 256
unfolding low_in
low_keeps i octet bare is =
    read_keeps (λ n. n < 256) (λ (w : List Bool). field_of (take 8 w)) (lsd16_reading_of (part (slice_index (low_places ldu_rows) i) 16 bare)) octet (λ w. field-lt 8 0 w) is

voice_keeps : (bare : List Bool) → (length (voice_in bare) ≡ 9) × All IsVoiceFrame (voice_in bare)
unfolding voice_in frame_in
voice_keeps bare = (
  length-map (frame_places ldu_rows) (λ at. frame_in at bare) ∙ nine_frames,
  All-map IsVoiceFrame (λ at. frame_in at bare) (frame_places ldu_rows) (λ i d inside.
      let behind = drop (get_or (frame_places ldu_rows) i d) bare in
      record { long = length-numbers_from 8 18 behind; small = All-numbers_from 8 18 behind }),
)

speech_keeps : (first second : ℕ) (bare : List Bool) → low_in 0 bare ≡ Some first → low_in 1 bare ≡ Some second → IsSpeech (first ∷ second ∷ []) (voice_in bare)
speech_keeps first second bare a b = record {
  two = refl;
  small = All-cons (λ n. n < 256) first (second ∷ []) (low_keeps 0 first bare a) (All-cons (λ n. n < 256) second [] (low_keeps 1 second bare b) (All-nil (λ n. n < 256)));
  nine = (voice_keeps bare).0;
  frames = (voice_keeps bare).1;
}

-- a data unit of a DUID that has the invariant of its type
pub record IsUnitOf (duid : ℕ) (unit : VoiceUnit) : Type 0 where
  pub kind : voice_duid unit ≡ duid
  pub sendable : IsSendableVoice unit

-- the decoding is the data unit
ok_same : {A E : Type 0} {read unit : A} → ◌≡◌ {A = Result A E} (Ok read) (Ok unit) → read ≡ unit
ok_same is = cc

-- the decoding is such a data unit, by types
header_read : (bare : List Bool) (answer : Option HeaderWord) (unit : VoiceUnit) → header_in bare ≡ answer → header_from answer ≡ Ok unit → IsUnitOf 0 unit
unfolding header_in header_from IsSendableVoice
header_read bare None unit is read = absurd (cc)
header_read bare (Some word) unit is read =
    subst (IsUnitOf 0) (ok_same read) (record { kind = refl; sendable = read_keeps IsHeaderWord header_of_symbols (field_reading_of header_layout bare) word header_keeps is })

tdulc_read : (bare : List Bool) (answer : Option LinkControl) (unit : VoiceUnit) → link_in tdulc_layout bare ≡ answer → tdulc_from answer ≡ Ok unit → IsUnitOf 15 unit
unfolding link_in tdulc_from IsSendableVoice
tdulc_read bare None unit is read = absurd (cc)
tdulc_read bare (Some link) unit is read =
    subst (IsUnitOf 15) (ok_same read) (record { kind = refl; sendable = read_keeps IsLinkControl link_of_symbols (field_reading_of tdulc_layout bare) link link_keeps is })

ldu_read : {X : Type 0} (duid : ℕ) (field : Field) (make : X → List ℕ → VoiceUnit)
    (bare : List Bool) (answer : Option X) (first second : Option ℕ) (unit : VoiceUnit) → low_in 0 bare ≡ first → low_in 1 bare ≡ second
    → ((word : X) (low : List ℕ) → answer ≡ Some word → IsSpeech low (voice_in bare) → IsUnitOf duid (make word low)) → ldu_from field make answer first second ≡ Ok unit → IsUnitOf duid unit
unfolding ldu_from
ldu_read duid field make bare None first second unit a b made read = absurd (cc)
ldu_read duid field make bare (Some word) None second unit a b made read = absurd (cc)
ldu_read duid field make bare (Some word) (Some first) None unit a b made read = absurd (cc)
ldu_read duid field make bare (Some word) (Some first) (Some second) unit a b made read =
    subst (IsUnitOf duid) (ok_same read) (made word (first ∷ second ∷ []) refl (speech_keeps first second bare a b))

end_read : (unit : VoiceUnit) → ◌≡◌ {A = Result VoiceUnit (List Field)} (Ok End) (Ok unit) → IsUnitOf 3 unit
unfolding IsSendableVoice
end_read unit read = subst (IsUnitOf 3) (ok_same read) (record { kind = refl; sendable = tt })

-- the decoding for a DUID is a data unit of it
pub unit_read : (duid : ℕ) (bare : List Bool) (unit : VoiceUnit) → voice_reading_of duid bare ≡ Ok unit → IsUnitOf duid unit
unfolding voice_reading_of ldu1_in ldu2_in link_in sync_in IsSendableVoice
unit_read duid bare unit =
    by_duid-cases (header_from (header_in bare)) (Ok End) (ldu1_in bare) (ldu2_in bare) (tdulc_from (link_in tdulc_layout bare)) (Err []) (λ d reading. reading ≡ Ok unit → IsUnitOf d unit)
    (header_read bare (header_in bare) unit refl)
    (end_read unit)
    (ldu_read 5 LinkField (λ link low. Link1 link low (voice_in bare)) bare (link_in link_layout bare) (low_in 0 bare) (low_in 1 bare) unit refl refl (λ link low is speech. record {
      kind = refl;
      sendable = record { word = read_keeps IsLinkControl link_of_symbols (field_reading_of link_layout bare) link link_keeps is; speech = speech };
    }))
    (ldu_read 10 SyncField (λ sync low. Link2 sync low (voice_in bare)) bare (sync_in bare) (low_in 0 bare) (low_in 1 bare) unit refl refl (λ sync low is speech. record {
      kind = refl;
      sendable = record { word = read_keeps IsEncryptionSync sync_of_symbols (field_reading_of sync_layout bare) sync sync_keeps is; speech = speech };
    }))
    (tdulc_read bare (link_in tdulc_layout bare) unit refl)
    (λ d none. absurd (cc)) duid
