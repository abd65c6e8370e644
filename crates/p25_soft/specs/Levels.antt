-- Levels of a soft recording: one number from -128 to 127 for each two bits, which are a dibit.
use Rattle.std.specs.Prelude.{ℕ, ◌+◌, ◌*◌, Bool, List, [], ◌∷◌, map, ℤ, pos, negsuc, int_le, ◌-ℤ◌, unsigned_abs, slice_index_or, if◌then◌else◌}
use Rattle.p25_bits.specs.{Bits.{digit_of}, Numbers.{number_bits}}

-- the level that represents each dibit: 32 for 00, 96 for 01, -32 for 10 and -96 for 11
unfoldable pub nominal_level : ℕ → ℤ
nominal_level dibit = slice_index_or (pos 32 ∷ pos 96 ∷ negsuc 31 ∷ negsuc 95 ∷ []) dibit (pos 0)

-- the dibit whose nominal level is nearest to a level: 01 from 64 up, 00 from 0 to 63, 10 from -64 to -1 and 11 below -64
unfoldable pub hard_dibit : ℤ → ℕ
hard_dibit level = if int_le (pos 64) level then 1 else (if int_le (pos 0) level then 0 else (if int_le (negsuc 63) level then 2 else 3))

-- the bits of the dibits whose nominal levels are nearest to some levels
unfoldable pub hard_bits : List ℤ → List Bool
hard_bits levels = number_bits 2 (map hard_dibit levels)

-- the dibits of bits, two bits each, the first bit higher
unfoldable pub dibits_of : List Bool → List ℕ
dibits_of [] = []
dibits_of (bit ∷ []) = []
dibits_of (high ∷ low ∷ bits) = (2 * digit_of high + digit_of low) ∷ dibits_of bits

-- the levels that represent bits
unfoldable pub nominal_levels : List Bool → List ℤ
nominal_levels bits = map nominal_level (dibits_of bits)

-- the square of level minus nominal level
unfoldable pub squared_deviation : ℕ → ℤ → ℕ
squared_deviation dibit level = let apart = unsigned_abs (level -ℤ nominal_level dibit) in apart * apart

-- the sum over dibits of the square of level minus nominal level
unfoldable pub deviation_of : List ℕ → List ℤ → ℕ
deviation_of [] levels = 0
deviation_of (dibit ∷ dibits) [] = 0
deviation_of (dibit ∷ dibits) (level ∷ levels) = squared_deviation dibit level + deviation_of dibits levels

-- the deviation of levels from bits
unfoldable pub bits_deviation : List Bool → List ℤ → ℕ
bits_deviation bits levels = deviation_of (dibits_of bits) levels
