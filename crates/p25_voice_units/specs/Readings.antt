-- Decoding of voice data units (HDU, LDU1, LDU2, TDU and TDULC).
use Rattle.std.specs.Prelude.{ℕ, Bool, if◌then◌else◌, ◌==◌, List, [], ◌∷◌, ◌++◌, take, drop, map, slice_index, Option, Some, None, option_map, Result, Ok, Err}
use Rattle.std.specs.List.{flat_map}
use Rattle.p25_bits.specs.{Bits.{field_of, part}, Numbers.{octets_from}}
use Rattle.p25_hamming.specs.Lsd16Laws.{lsd16_reading_of}
use Rattle.p25_link.specs.{Words.{header_of_symbols, link_of_symbols, sync_of_symbols}, declared.encryption.EncryptionSync.{EncryptionSync}}
use Rattle.p25_link.specs.{declared.encryption.HeaderWord.{HeaderWord}, declared.link_control.LinkControl.{LinkControl}}
use Rattle.p25_coded_fields.specs.Layouts.{Layout, field_reading_of}
use Rattle.p25_status.specs.declared.fields.Field.{Field}
use Rattle.p25_status.specs.declared.fields.Field.TheVariants.{HeaderWord as HeaderField, LinkControl as LinkField, EncryptionSync as SyncField, LowSpeed1, LowSpeed2}
use Rattle.p25_bch_nid.specs.Duids.{duid_hdu, duid_tdu, duid_ldu1, duid_ldu2, duid_tdulc}
use Rattle.p25_voice_units.specs.{declared.layout.Piece.{Piece}, declared.layout.Piece.TheVariants.{Words, Frame, LowSpeed, Nulls}}
use Rattle.p25_voice_units.specs.{declared.voice.VoiceFrame.{VoiceFrame}, declared.unit.VoiceUnit.{VoiceUnit}}
use Rattle.p25_voice_units.specs.{declared.unit.VoiceUnit.TheVariants.{Header, Link1, Link2, End, EndLink}, Layouts.{ldu_rows}}
use Rattle.p25_voice_units.specs.FieldLayouts.{header_layout, link_layout, sync_layout, tdulc_layout}

-- the position of a voice frame, if a voice frame is at a position
abbrev pub frame_at_place : ℕ → Piece → List ℕ
frame_at_place at (Words first count) = []
frame_at_place at (Frame i) = at ∷ []
frame_at_place at (LowSpeed i) = []
frame_at_place at (Nulls count) = []

-- the position of a low speed data (LSD) word, if one is at a position
abbrev pub low_at_place : ℕ → Piece → List ℕ
low_at_place at (Words first count) = []
low_at_place at (Frame i) = []
low_at_place at (LowSpeed i) = at ∷ []
low_at_place at (Nulls count) = []

-- the positions of the voice frames and of the low speed data (LSD) words of a layout
unfoldable pub frame_places : List (ℕ × Piece) → List ℕ
frame_places rows = flat_map (λ row. frame_at_place row.0 row.1) rows

unfoldable pub low_places : List (ℕ × Piece) → List ℕ
low_places rows = flat_map (λ row. low_at_place row.0 row.1) rows

-- the voice frame at a position: eighteen octets
unfoldable pub frame_in : ℕ → List Bool → VoiceFrame
frame_in at bare = record { 0 = octets_from 18 (drop at bare) }

-- the voice frames of an LDU1 or an LDU2, as received
unfoldable pub voice_in : List Bool → List VoiceFrame
voice_in bare = map (λ at. frame_in at bare) (frame_places ldu_rows)

-- the octet of the low speed data (LSD) word of an index, from 0, or none if no codeword lies within 2 bits
unfoldable pub low_in : ℕ → List Bool → Option ℕ
low_in i bare = option_map (λ word. field_of (take 8 word)) (lsd16_reading_of (part (slice_index (low_places ldu_rows) i) 16 bare))

-- the header word of an HDU, or none if the field fails
unfoldable pub header_in : List Bool → Option HeaderWord
header_in bare = option_map header_of_symbols (field_reading_of header_layout bare)

-- the link control (LC) of an LDU1 or a TDULC, by the layout of the field, or none if the field fails
unfoldable pub link_in : Layout → List Bool → Option LinkControl
link_in layout bare = option_map link_of_symbols (field_reading_of layout bare)

-- the encryption sync (ES) of an LDU2, or none if the field fails
unfoldable pub sync_in : List Bool → Option EncryptionSync
sync_in bare = option_map sync_of_symbols (field_reading_of sync_layout bare)

-- a field, if it is uncorrectable
unfoldable pub missing : {X : Type 0} → Field → Option X → List Field
missing field None = field ∷ []
missing field (Some x) = []

-- the failing fields of an LDU1 or an LDU2, in order
unfoldable pub failing : {X : Type 0} → Field → Option X → Option ℕ → Option ℕ → List Field
failing field word first second = missing field word ++ missing LowSpeed1 first ++ missing LowSpeed2 second

-- an HDU by its header word: the data unit if that was decoded, otherwise the field that fails
unfoldable pub header_from : Option HeaderWord → Result VoiceUnit (List Field)
header_from (Some word) = Ok (Header word)
header_from None = Err (HeaderField ∷ [])

-- an LDU1 or an LDU2, made of its word and of the octets of low speed data (LSD), if all were decoded, otherwise exactly the fields that fail, in
-- order
unfoldable pub ldu_from : {X : Type 0} → Field → (X → List ℕ → VoiceUnit) → Option X → Option ℕ → Option ℕ → Result VoiceUnit (List Field)
ldu_from field unit (Some word) (Some first) (Some second) = Ok (unit word (first ∷ second ∷ []))
ldu_from field unit word first second = Err (failing field word first second)

-- a TDULC by its link control (LC): the data unit if that was decoded, otherwise the field that fails
unfoldable pub tdulc_from : Option LinkControl → Result VoiceUnit (List Field)
tdulc_from (Some link) = Ok (EndLink link)
tdulc_from None = Err (LinkField ∷ [])

-- the LDU1 that bits decode to, or exactly the fields that fail, in order
unfoldable pub ldu1_in : List Bool → Result VoiceUnit (List Field)
ldu1_in bare = ldu_from LinkField (λ link low. Link1 link low (voice_in bare)) (link_in link_layout bare) (low_in 0 bare) (low_in 1 bare)

-- the LDU2 that bits decode to, or exactly the fields that fail, in order
unfoldable pub ldu2_in : List Bool → Result VoiceUnit (List Field)
ldu2_in bare = ldu_from SyncField (λ sync low. Link2 sync low (voice_in bare)) (sync_in bare) (low_in 0 bare) (low_in 1 bare)

-- the data unit that bits without status symbols decode to if the NID has a DUID, or otherwise exactly the fields that fail. DUIDs of no voice data
-- unit are not decoded
unfoldable pub voice_reading_of : ℕ → List Bool → Result VoiceUnit (List Field)
voice_reading_of duid bare =
    if duid == duid_hdu then header_from (header_in bare)
    else if duid == duid_tdu then Ok End
    else if duid == duid_ldu1 then ldu1_in bare
    else if duid == duid_ldu2 then ldu2_in bare
    else if duid == duid_tdulc then tdulc_from (link_in tdulc_layout bare)
    else Err []
