-- The bits of voice data units (HDU, LDU1, LDU2, TDU and TDULC) by their positions, as in the standard.
use Rattle.std.specs.Prelude.{◌≡◌, ℕ, Bool, false, List, [], length, take, replicate, slice_index, All, Some}
use Rattle.p25_bits.specs.Bits.{bits_of, octet_bits, part}
use Rattle.p25_bch_nid.specs.Duids.{duid_hdu, duid_tdu, duid_ldu1, duid_ldu2, duid_tdulc}
use Rattle.p25_code.specs.Words.{IsEncoding}
use Rattle.p25_hamming.specs.{Hamming10.{IsHamming10}, Lsd16.{IsLsd16}}
use Rattle.p25_golay.specs.{Golay18.{IsGolay18}, Golay24.{IsGolay24}}
use Rattle.p25_reed_solomon.specs.Words.{IsWord}
use Rattle.p25_link.specs.Words.{header_symbols, link_symbols, sync_symbols}
use Rattle.p25_coded_fields.specs.Within.{HasField}
use Rattle.p25_unit_front.specs.Front.{IsFront}
use Rattle.p25_voice_units.specs.{declared.layout.Piece.{Piece}, declared.layout.Piece.TheVariants.{Words, Frame, LowSpeed, Nulls}}
use Rattle.p25_voice_units.specs.{declared.voice.VoiceFrame.{VoiceFrame}, declared.unit.VoiceUnit.{VoiceUnit}}
use Rattle.p25_voice_units.specs.{declared.unit.VoiceUnit.TheVariants.{Header, Link1, Link2, End, EndLink}, Layouts.{hdu_rows, ldu_rows, tdu_rows, tdulc_rows}}
use Rattle.p25_voice_units.specs.{FieldLayouts.{header_layout, link_layout, sync_layout, tdulc_layout}, Images.{frame_at}, Lengths.{voice_length_of}}

-- the part at a position: the 144 bits of a voice frame, a low speed data (LSD) word with an octet, or nulls. The inner words of the coded field are
-- in `HasField`
abbrev pub HasPiece : List ℕ → List VoiceFrame → List Bool → ℕ → Piece → Type 0
HasPiece low voice bare at (Words first count) = Unit {0}
HasPiece low voice bare at (Frame i) = part at 144 bare ≡ octet_bits (frame_at voice i).0
HasPiece low voice bare at (LowSpeed i) = IsEncoding IsLsd16 8 (bits_of 8 (slice_index low i)) (part at 16 bare)
HasPiece low voice bare at (Nulls count) = part at count bare ≡ replicate count false

-- bits are a data unit of a NAC and a DUID by a layout: as many as the DUID has, and the right part is at each position
pub record IsLaidOut (nac duid : ℕ) (rows : List (ℕ × Piece)) (low : List ℕ) (voice : List VoiceFrame) (bare : List Bool) : Type 0 where
  pub long : voice_length_of duid ≡ Some (length bare)
  pub front : IsFront nac duid (take 112 bare)
  pub pieces : All (λ row. HasPiece low voice bare row.0 row.1) rows

-- bits are a voice data unit (HDU, LDU1, LDU2, TDU or TDULC): they have the layout of its type, and carry its coded field
unfoldable pub IsVoiceImage : ℕ → VoiceUnit → List Bool → Type 0
IsVoiceImage nac (Header word) bare =
    IsLaidOut nac duid_hdu hdu_rows [] [] bare × HasField IsGolay18 (IsWord 36 20) header_layout (header_symbols word) bare
IsVoiceImage nac (Link1 link low voice) bare =
    IsLaidOut nac duid_ldu1 ldu_rows low voice bare × HasField IsHamming10 (IsWord 24 12) link_layout (link_symbols link) bare
IsVoiceImage nac (Link2 sync low voice) bare =
    IsLaidOut nac duid_ldu2 ldu_rows low voice bare × HasField IsHamming10 (IsWord 24 16) sync_layout (sync_symbols sync) bare
IsVoiceImage nac End bare = IsLaidOut nac duid_tdu tdu_rows [] [] bare
IsVoiceImage nac (EndLink link) bare =
    IsLaidOut nac duid_tdulc tdulc_rows [] [] bare × HasField IsGolay24 (IsWord 24 12) tdulc_layout (link_symbols link) bare
