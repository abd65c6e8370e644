-- Octets as words: two digits for each octet, or `-` if there is none.
use Rattle.std.specs.{Prelude.{ℕ, ◌*◌, ◌%◌, ◌==◌, ◌&&◌, nat_le, Bool, if◌then◌else◌, List, [], ◌∷◌, length, Option, Some, None}, List.{list_all}}
use Rattle.std.specs.Str.{bytes_eq}
use Rattle.hex.specs.Hex.{encode_lower}
use Rattle.p25_line.specs.{CommaLists.{dash}, Values.{is_lower_digit, octets_of}}

-- the word for octets: two digits for each octet, or `-` if there is none
abbrev pub octets_text : List ℕ → List ℕ
octets_text [] = dash
octets_text (octet ∷ octets) = encode_lower (octet ∷ octets)

-- lower-case hexadecimal digits, two for each octet, for at least one octet and at most a given number
abbrev pub has_digits_up_to : ℕ → List ℕ → Bool
has_digits_up_to most word =
    nat_le 2 (length word) && nat_le (length word) (2 * most) && (length word % 2 == 0) && list_all is_lower_digit word

-- the octets that a word represents, at most a given number
abbrev pub octets_up_to : ℕ → List ℕ → Option (List ℕ)
octets_up_to most word = if bytes_eq word dash then Some [] else if has_digits_up_to most word then Some (octets_of word) else None
