-- The types of data unit that may follow a data unit, by its type. A type is a data unit identifier (DUID). A name is the network access code (NAC)
-- of a data unit and its type.
use Rattle.std.specs.{Prelude.{ℕ, Bool, if◌then◌else◌, ◌==◌, List, [], ◌∷◌, Option, Some, None}, List.{list_any}, Option.{option_map, unwrap_or}}
use Rattle.p25_bch_nid.specs.{Duids.{duid_hdu, duid_ldu1, duid_ldu2, duid_tdu, duid_tdulc}, declared.nid.Nid.{Nid}}
use Rattle.p25_voice_units.specs.Lengths.{voice_length_of}
use Rattle.p25_units.specs.Units.{sent_length}

-- the name of a network identifier (NID)
abbrev pub name_of : Nid → ℕ × ℕ
name_of nid = (nid.nac, nid.duid)

abbrev pub names_of : Option Nid → Option (ℕ × ℕ)
names_of nid = option_map name_of nid

-- the number of transmitted bits of a voice data unit of a type
unfoldable pub kind_length : ℕ → ℕ
kind_length kind = sent_length (unwrap_or (voice_length_of kind) 0)

-- the types that may follow a data unit of a type, in the order in which they are tried
unfoldable pub expected_after : ℕ → List ℕ
expected_after kind =
    if kind == duid_hdu then duid_ldu1 ∷ duid_tdulc ∷ duid_tdu ∷ []
    else if kind == duid_ldu1 then duid_ldu2 ∷ duid_tdulc ∷ duid_tdu ∷ []
    else if kind == duid_ldu2 then duid_ldu1 ∷ duid_tdulc ∷ duid_tdu ∷ []
    else if kind == duid_tdulc then duid_hdu ∷ duid_tdulc ∷ duid_tdu ∷ []
    else []

-- whether a type may follow a data unit of a type
unfoldable pub is_expected : ℕ → ℕ → Bool
is_expected before kind = list_any (λ next. next == kind) (expected_after before)

-- the logical link data unit (LDU1 or LDU2) that is next after a data unit of a type
unfoldable pub next_link : ℕ → Option ℕ
next_link kind =
    if kind == duid_hdu then Some duid_ldu1
    else if kind == duid_ldu1 then Some duid_ldu2
    else if kind == duid_ldu2 then Some duid_ldu1
    else None
