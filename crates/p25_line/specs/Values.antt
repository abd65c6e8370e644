-- The octets and digits of values.
use Rattle.std.specs.Prelude.{ℕ, zero, suc, ◌+◌, ◌*◌, ◌/◌, ◌%◌, ◌-◌, ◌<◌, ◌&&◌, ◌||◌, nat_le, nat_lt, Bool, if◌then◌else◌, List, [], ◌∷◌, drop, All, Option, Some, None, decimal}
use Rattle.std.specs.Str.{bytes_eq}
use Rattle.hex.specs.Hex.{encode_lower}

-- numbers below 256
abbrev pub AllOctets : List ℕ → Type 0
AllOctets octets = All (λ octet. octet < 256) octets

-- a lower-case hexadecimal digit
abbrev pub is_lower_digit : ℕ → Bool
is_lower_digit digit = (nat_le 48 digit && nat_le digit 57) || (nat_le 97 digit && nat_le digit 102)

-- the value of a lower-case hexadecimal digit
abbrev pub nibble_of : ℕ → ℕ
nibble_of digit = if nat_lt digit 58 then digit - 48 else digit - 87

-- the octets of a text of hexadecimal digits, two digits each
unfoldable pub octets_of : List ℕ → List ℕ
octets_of [] = []
octets_of (digit ∷ []) = []
octets_of (high ∷ low ∷ digits) = (16 * nibble_of high + nibble_of low) ∷ octets_of digits

-- the last three lower-case hexadecimal digits of a number below 65,536
abbrev pub three_digits : ℕ → List ℕ
three_digits number = drop 1 (encode_lower (number / 256 ∷ number % 256 ∷ []))

-- the number below a bound whose decimal text a word is: no leading zero, and no sign
unfoldable pub number_below : ℕ → List ℕ → Option ℕ
number_below zero word = None
number_below (suc number) word = if bytes_eq word (decimal number) then Some number else number_below number word
