-- The types of unit lines, and their keys.
use Rattle.std.specs.{Prelude.{List, [], ◌∷◌, get_or, codes, ℕ, Option}, Str.{bytes_eq}, List.{find}}
use Rattle.p25_text.specs.declared.names.UnitKey.{UnitKey}
use Rattle.p25_text.specs.declared.names.UnitKey.TheVariants.{Nac, Mi, Mfid, Algid, Kid, Tgid, Lc, Lsd, Frames, Head, Blocks, Octets}
use Rattle.p25_text.specs.{declared.names.UnitKind.{UnitKind}, declared.names.UnitKind.TheVariants.{Hdu, Ldu1, Ldu2, Tdu, Tdulc, Confirmed, Plain, Response}}

-- the word that begins a line of a type
abbrev pub kind_word : UnitKind → List ℕ
kind_word Hdu = codes "hdu"
kind_word Ldu1 = codes "ldu1"
kind_word Ldu2 = codes "ldu2"
kind_word Tdu = codes "tdu"
kind_word Tdulc = codes "tdulc"
kind_word Confirmed = codes "confirmed"
kind_word Plain = codes "plain"
kind_word Response = codes "response"

-- the keys of a type after its network access code (NAC), in their order
abbrev pub other_keys : UnitKind → List UnitKey
other_keys Hdu = Mi ∷ Mfid ∷ Algid ∷ Kid ∷ Tgid ∷ []
other_keys Ldu1 = Lc ∷ Lsd ∷ Frames ∷ []
other_keys Ldu2 = Mi ∷ Algid ∷ Kid ∷ Lsd ∷ Frames ∷ []
other_keys Tdu = []
other_keys Tdulc = Lc ∷ []
other_keys Confirmed = Head ∷ Blocks ∷ []
other_keys Plain = Head ∷ Octets ∷ []
other_keys Response = Head ∷ Octets ∷ []

-- the keys of a type, in their order
abbrev pub keys_of : UnitKind → List UnitKey
keys_of kind = Nac ∷ other_keys kind

-- key `i` of a type, counted from 0
abbrev pub key_at : UnitKind → ℕ → UnitKey
key_at kind i = get_or (keys_of kind) i Nac

-- a key as it is before its value
abbrev pub key_text : UnitKey → List ℕ
key_text Nac = codes "nac="
key_text Mi = codes "mi="
key_text Mfid = codes "mfid="
key_text Algid = codes "algid="
key_text Kid = codes "kid="
key_text Tgid = codes "tgid="
key_text Lc = codes "lc="
key_text Lsd = codes "lsd="
key_text Frames = codes "voice="
key_text Head = codes "head="
key_text Blocks = codes "blocks="
key_text Octets = codes "octets="

-- the number of octets of the value of a key of a voice data unit, two digits each; no other key has such a width
abbrev pub width_of : UnitKey → ℕ
width_of Mi = 9
width_of Mfid = 1
width_of Algid = 1
width_of Kid = 2
width_of Tgid = 2
width_of Lc = 9
width_of Lsd = 2
width_of Frames = 162
width_of key = 0

-- all types
abbrev pub kinds : List UnitKind
kinds = Hdu ∷ Ldu1 ∷ Ldu2 ∷ Tdu ∷ Tdulc ∷ Confirmed ∷ Plain ∷ Response ∷ []

-- the type that a word names
abbrev pub kind_named : List ℕ → Option UnitKind
kind_named word = find (λ kind. bytes_eq word (kind_word kind)) kinds
