-- The types of voice data units (HDU, LDU1, LDU2, TDU and TDULC), by their data unit identifiers (DUID), and their numbers of bits.
use Rattle.std.specs.Prelude.{ℕ, if◌then◌else◌, ◌==◌, Option, Some, None}
use Rattle.p25_bch_nid.specs.Duids.{duid_hdu, duid_tdu, duid_ldu1, duid_ldu2, duid_tdulc}
use Rattle.p25_voice_units.specs.{declared.unit.VoiceUnit.{VoiceUnit}, declared.unit.VoiceUnit.TheVariants.{Header, Link1, Link2, End, EndLink}}

-- the data unit identifier (DUID) of a data unit's type: of an HDU, an LDU1, an LDU2, a TDU or a TDULC
abbrev pub voice_duid : VoiceUnit → ℕ
voice_duid (Header word) = duid_hdu
voice_duid (Link1 link low voice) = duid_ldu1
voice_duid (Link2 sync low voice) = duid_ldu2
voice_duid End = duid_tdu
voice_duid (EndLink link) = duid_tdulc

-- the number of bits without status symbols of a data unit with a data unit identifier (DUID); none if it is that of no voice data unit
unfoldable pub voice_length_of : ℕ → Option ℕ
voice_length_of duid =
    if duid == duid_hdu then Some 770
    else if duid == duid_tdu then Some 140
    else if duid == duid_ldu1 then Some 1680
    else if duid == duid_ldu2 then Some 1680
    else if duid == duid_tdulc then Some 420
    else None
