-- The values of voice data units (HDU, LDU1, LDU2, TDU, TDULC) after the network access code (NAC), and the voice data units that values decode to.
use Rattle.std.specs.{Prelude.{ℕ, zero, suc, ◌/◌, ◌%◌, List, [], ◌∷◌, take, drop, map, slice_index, Option, Some, None}, List.{flat_map}}
use Rattle.std.specs.Option.{option_and_then}
use Rattle.hex.specs.Hex.{encode_lower}
use Rattle.p25_bits.specs.Numbers.{pair_at}
use Rattle.p25_line.specs.CommaLists.{with_entry}
use Rattle.p25_voice_units.specs.{declared.unit.VoiceUnit.{VoiceUnit}, declared.unit.VoiceUnit.TheVariants.{Header, Link1, Link2, End, EndLink}}
use Rattle.p25_voice_units.specs.declared.voice.VoiceFrame.{VoiceFrame}
use Rattle.p25_text.specs.{Names.{other_keys, width_of}, Values.{octets_in}, declared.names.UnitKey.{UnitKey}, declared.names.UnitKind.{UnitKind}}
use Rattle.p25_text.specs.declared.names.UnitKind.TheVariants.{Hdu, Ldu1, Ldu2, Tdu, Tdulc}

-- ---- texts

-- two octets of a number, the higher first
abbrev pub pair_of : ℕ → List ℕ
pair_of number = number / 256 ∷ number % 256 ∷ []

-- the octets of the voice frames of an LDU1 or an LDU2, one frame after the other
unfoldable pub frame_octets : List VoiceFrame → List ℕ
frame_octets frames = flat_map (λ frame. frame.0) frames

-- the octets of a data unit's fields, in the order of the keys after the network access code (NAC)
abbrev pub voice_octets : VoiceUnit → List (List ℕ)
voice_octets (Header word) = word.mi ∷ (word.mfid ∷ []) ∷ (word.algid ∷ []) ∷ pair_of word.kid ∷ pair_of word.tgid ∷ []
voice_octets (Link1 link low voice) = link.0 ∷ low ∷ frame_octets voice ∷ []
voice_octets (Link2 sync low voice) = sync.mi ∷ (sync.algid ∷ []) ∷ pair_of sync.kid ∷ low ∷ frame_octets voice ∷ []
voice_octets End = []
voice_octets (EndLink link) = link.0 ∷ []

-- the values of a data unit, two digits for each octet of its fields
abbrev pub voice_values : VoiceUnit → List (List ℕ)
voice_values unit = map encode_lower (voice_octets unit)

-- the type of the line of a data unit
abbrev pub voice_kind : VoiceUnit → UnitKind
voice_kind (Header word) = Hdu
voice_kind (Link1 link low voice) = Ldu1
voice_kind (Link2 sync low voice) = Ldu2
voice_kind End = Tdu
voice_kind (EndLink link) = Tdulc

-- ---- readings

-- the octets of values, if each has the width of its key
abbrev pub octets_behind : List UnitKey → List (List ℕ) → Option (List (List ℕ))
octets_behind [] [] = Some []
octets_behind [] (value ∷ values) = None
octets_behind (key ∷ keys) [] = None
octets_behind (key ∷ keys) (value ∷ values) = with_entry (octets_in (width_of key) value) (octets_behind keys values)

-- the number of one octet
abbrev pub octet_number : List ℕ → ℕ
octet_number octets = slice_index octets 0

-- a number of voice frames of an LDU1 or an LDU2, of eighteen octets each
unfoldable pub frames_of : ℕ → List ℕ → List VoiceFrame
frames_of zero octets = []
frames_of (suc n) octets = record { 0 = take 18 octets } ∷ frames_of n (drop 18 octets)

-- the data unit of a type with such octets
abbrev pub voice_from : UnitKind → List (List ℕ) → Option VoiceUnit
voice_from Hdu (mi ∷ mfid ∷ algid ∷ kid ∷ tgid ∷ []) =
    Some (Header (record { mi = mi; mfid = octet_number mfid; algid = octet_number algid; kid = pair_at kid 0; tgid = pair_at tgid 0 }))
voice_from Ldu1 (link ∷ low ∷ voice ∷ []) = Some (Link1 (record { 0 = link }) low (frames_of 9 voice))
voice_from Ldu2 (mi ∷ algid ∷ kid ∷ low ∷ voice ∷ []) =
    Some (Link2 (record { mi = mi; algid = octet_number algid; kid = pair_at kid 0 }) low (frames_of 9 voice))
voice_from Tdu [] = Some End
voice_from Tdulc (link ∷ []) = Some (EndLink (record { 0 = link }))
voice_from kind octets = None

-- the data unit of a type that values decode to
abbrev pub voice_in : UnitKind → List (List ℕ) → Option VoiceUnit
voice_in kind values = option_and_then (voice_from kind) (octets_behind (other_keys kind) values)
