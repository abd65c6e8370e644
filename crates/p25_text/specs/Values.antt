-- Values of keys, and the words for them: digits, two for each octet, or `-` for none.
use Rattle.std.specs.{Prelude.{ℕ, ◌+◌, ◌*◌, ◌==◌, ◌&&◌, if◌then◌else◌, List, [], ◌∷◌, ◌++◌, length, Option, Some, None}, List.{list_all}, Str.{bytes_eq}}
use Rattle.hex.specs.Hex.{encode_lower}
use Rattle.p25_line.specs.{CommaLists.{dash}, Values.{is_lower_digit, octets_of}}
use Rattle.p25_text.specs.{Names.{key_text}, declared.names.UnitKey.{UnitKey}}

-- the octets whose text a word is, if it has two digits for each of a number of octets
abbrev pub octets_in : ℕ → List ℕ → Option (List ℕ)
octets_in count word = if (length word == 2 * count) && list_all is_lower_digit word then Some (octets_of word) else None

-- the number of two octets
abbrev pub number_in : Option (List ℕ) → Option ℕ
number_in (Some (high ∷ low ∷ [])) = Some (256 * high + low)
number_in (Some octets) = None
number_in None = None

-- the network access code (NAC) of a word of three digits
abbrev pub nac_in : List ℕ → Option ℕ
nac_in word = number_in (octets_in 2 (48 ∷ word))

-- a space, a key and its value, two digits for each octet
abbrev pub key_value_text : UnitKey → List ℕ → List ℕ
key_value_text key octets = 32 ∷ key_text key ++ encode_lower octets

-- the octets whose text a word is, if there are a given number of them, maybe none
abbrev pub octets_or_none : ℕ → List ℕ → Option (List ℕ)
octets_or_none count word = if count == 0 then (if bytes_eq word dash then Some [] else None) else octets_in count word
