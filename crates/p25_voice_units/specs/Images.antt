-- The bits of voice data units (HDU, LDU1, LDU2, TDU and TDULC) without status symbols, as one list.
use Rattle.std.specs.{Prelude.{ℕ, ◌*◌, Bool, false, List, [], ◌++◌, replicate, slice_index, slice_index_or}, List.{flat_map}}
use Rattle.p25_bits.specs.Bits.{bits_of, octet_bits, part}
use Rattle.p25_gf64.specs.declared.symbol.Sym.{Sym}
use Rattle.p25_hamming.specs.{Hamming10.{hamming10_word}, Lsd16.{lsd16_word}}
use Rattle.p25_golay.specs.{Golay18.{golay18_word}, Golay24.{golay24_word}}
use Rattle.p25_reed_solomon.specs.Encoding.{rs_word}
use Rattle.p25_link.specs.Words.{header_symbols, link_symbols, sync_symbols}
use Rattle.p25_coded_fields.specs.Layouts.{field_bits}
use Rattle.p25_unit_front.specs.Front.{unit_front}
use Rattle.p25_voice_units.specs.{declared.layout.Piece.{Piece}, declared.layout.Piece.TheVariants.{Words, Frame, LowSpeed, Nulls}}
use Rattle.p25_voice_units.specs.{declared.voice.VoiceFrame.{VoiceFrame}, declared.unit.VoiceUnit.{VoiceUnit}}
use Rattle.p25_voice_units.specs.{declared.unit.VoiceUnit.TheVariants.{Header, Link1, Link2, End, EndLink}, Layouts.{hdu_rows, ldu_rows, tdu_rows, tdulc_rows}}
use Rattle.p25_voice_units.specs.Lengths.{voice_duid}

-- the contents of a data unit: the code of its inner words and the number of symbols of each, the symbols of its outer word, two octets of low speed
-- data (LSD), and nine voice frames
pub record Contents : Type 0 where
  pub encoding : List Bool → List Bool
  pub each : ℕ
  pub symbols : List Sym
  pub low : List ℕ
  pub voice : List VoiceFrame

abbrev pub contents : (List Bool → List Bool) → ℕ → List Sym → List ℕ → List VoiceFrame → Contents
contents encoding each symbols low voice = record { encoding = encoding; each = each; symbols = symbols; low = low; voice = voice }

-- a voice frame by its number
abbrev pub frame_at : List VoiceFrame → ℕ → VoiceFrame
frame_at voice i = let blank : VoiceFrame = record { 0 = [] } in slice_index_or voice i blank

-- the bits of a part of a data unit
unfoldable pub piece_bits : Contents → Piece → List Bool
piece_bits carried (Words first count) =
    field_bits carried.encoding carried.each count (part (carried.each * first) (carried.each * count) carried.symbols)
piece_bits carried (Frame i) = octet_bits (frame_at carried.voice i).0
piece_bits carried (LowSpeed i) = lsd16_word (bits_of 8 (slice_index carried.low i))
piece_bits carried (Nulls count) = replicate count false

-- the parts of rows, one after the other
unfoldable pub rows_bits : Contents → List (ℕ × Piece) → List Bool
rows_bits carried rows = flat_map (λ row. piece_bits carried row.1) rows

-- the bits after sync and NID of an HDU, an LDU1, an LDU2, a TDU or a TDULC
unfoldable pub voice_body : VoiceUnit → List Bool
voice_body (Header word) = rows_bits (contents golay18_word 1 (rs_word 36 20 (header_symbols word)) [] []) hdu_rows
voice_body (Link1 link low voice) = rows_bits (contents hamming10_word 1 (rs_word 24 12 (link_symbols link)) low voice) ldu_rows
voice_body (Link2 sync low voice) = rows_bits (contents hamming10_word 1 (rs_word 24 16 (sync_symbols sync)) low voice) ldu_rows
voice_body End = rows_bits (contents golay18_word 1 [] [] []) tdu_rows
voice_body (EndLink link) = rows_bits (contents golay24_word 2 (rs_word 24 12 (link_symbols link)) [] []) tdulc_rows

-- the bits of a data unit
unfoldable pub voice_image_of : ℕ → VoiceUnit → List Bool
voice_image_of nac unit = unit_front nac (voice_duid unit) ++ voice_body unit
