-- Bits and the numbers that they write. The first bit of a list is the highest.
use Rattle.std.specs.{Prelude.{ℕ, zero, suc, ◌+◌, ◌*◌, Bool, true, false, not, ◌==◌, List, [], ◌∷◌, take, drop}, Int.{bit_at}, List.{flat_map}}

-- a bit as a number: 1 for true, 0 for false
abbrev pub digit_of : Bool → ℕ
digit_of true = 1
digit_of false = 0

-- `width` bits of a number, highest first: those of 2 ^ (width - 1) down to 2 ^ 0
unfoldable pub bits_of : ℕ → ℕ → List Bool
bits_of zero number = []
bits_of (suc width) number = (bit_at number width == 1) ∷ bits_of width number

-- the number that bits write after the number of the bits before them
unfoldable pub field_after : ℕ → List Bool → ℕ
field_after high [] = high
field_after high (bit ∷ bits) = field_after (2 * high + digit_of bit) bits

-- the number that bits write, the first bit highest
unfoldable pub field_of : List Bool → ℕ
field_of bits = field_after 0 bits

-- the bits of octets, each octet's most significant bit first
unfoldable pub octet_bits : List ℕ → List Bool
octet_bits octets = flat_map (bits_of 8) octets

-- the part of a list of `count` elements from position `at` on
abbrev pub part : {X : Type 0} → ℕ → ℕ → List X → List X
part at count list = take count (drop at list)

-- a list of bits with the bit at a position inverted
abbrev pub flipped : List Bool → ℕ → List Bool
flipped [] place = []
flipped (bit ∷ bits) zero = not bit ∷ bits
flipped (bit ∷ bits) (suc place) = bit ∷ flipped bits place
