-- Lists of numbers: the numbers that bits write with a given width, numbers in base 256, and lists made position by position.
use Rattle.std.specs.{Prelude.{ℕ, zero, suc, ◌+◌, ◌*◌, Bool, List, [], ◌∷◌, ◌++◌, take, drop, slice_index}, List.{flat_map}}
use Rattle.p25_bits.specs.Bits.{bits_of, field_of}

-- the bits of numbers, `width` bits each
unfoldable pub number_bits : ℕ → List ℕ → List Bool
number_bits width numbers = flat_map (bits_of width) numbers

-- the numbers that bits write, `width` bits each, a given number of them
unfoldable pub numbers_from : ℕ → ℕ → List Bool → List ℕ
numbers_from width zero bits = []
numbers_from width (suc n) bits = field_of (take width bits) ∷ numbers_from width n (drop width bits)

-- the octets that bits write, a given number of them
abbrev pub octets_from : ℕ → List Bool → List ℕ
octets_from n bits = numbers_from 8 n bits

-- the number that octets write after the number of the octets before them
unfoldable pub number_after : ℕ → List ℕ → ℕ
number_after high [] = high
number_after high (octet ∷ octets) = number_after (256 * high + octet) octets

-- the number that octets write in base 256, the first octet highest
unfoldable pub octets_number : List ℕ → ℕ
octets_number octets = number_after 0 octets

-- the number of the two octets from a position on, the first one higher; the next definition is that of three octets
abbrev pub pair_at : List ℕ → ℕ → ℕ
pair_at octets at = 256 * slice_index octets at + slice_index octets (at + 1)

abbrev pub triple_at : List ℕ → ℕ → ℕ
triple_at octets at = 65536 * slice_index octets at + 256 * slice_index octets (at + 1) + slice_index octets (at + 2)

-- the list of n elements, each given by its position
unfoldable pub each_below : {X : Type 0} → ℕ → (ℕ → X) → List X
each_below zero f = []
each_below (suc n) f = each_below n f ++ f n ∷ []

-- n lists, each given by its position, one after the other
unfoldable pub joined_below : {X : Type 0} → ℕ → (ℕ → List X) → List X
joined_below zero f = []
joined_below (suc n) f = joined_below n f ++ f n
