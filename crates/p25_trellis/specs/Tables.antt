-- The tables of points of the two rates, and the distance of two nibbles.
use Rattle.std.specs.Prelude.{ℕ, List, [], ◌∷◌, slice_index, slice_index_or}
use Rattle.p25_bits.specs.{Bits.{bits_of}, Distance.{distance_of}}

-- the four bits of each of the 16 points, as a number
unfoldable pub point_nibbles : List ℕ
point_nibbles = 0x2 ∷ 0xA ∷ 0x7 ∷ 0xF ∷ 0xE ∷ 0x6 ∷ 0xB ∷ 0x3 ∷ 0xD ∷ 0x5 ∷ 0x8 ∷ 0x0 ∷ 0x1 ∷ 0x9 ∷ 0x4 ∷ 0xC ∷ []

-- the points of half rate: a row for each state, in it a point for each symbol
unfoldable pub half_rows : List (List ℕ)
half_rows =
    (0 ∷ 15 ∷ 12 ∷ 3 ∷ [])
    ∷ (4 ∷ 11 ∷ 8 ∷ 7 ∷ [])
    ∷ (13 ∷ 2 ∷ 1 ∷ 14 ∷ [])
    ∷ (9 ∷ 6 ∷ 5 ∷ 10 ∷ [])
    ∷ []

-- the points of three-quarter rate
unfoldable pub three_quarter_rows : List (List ℕ)
three_quarter_rows =
    (0 ∷ 8 ∷ 4 ∷ 12 ∷ 2 ∷ 10 ∷ 6 ∷ 14 ∷ [])
    ∷ (4 ∷ 12 ∷ 2 ∷ 10 ∷ 6 ∷ 14 ∷ 0 ∷ 8 ∷ [])
    ∷ (1 ∷ 9 ∷ 5 ∷ 13 ∷ 3 ∷ 11 ∷ 7 ∷ 15 ∷ [])
    ∷ (5 ∷ 13 ∷ 3 ∷ 11 ∷ 7 ∷ 15 ∷ 1 ∷ 9 ∷ [])
    ∷ (3 ∷ 11 ∷ 7 ∷ 15 ∷ 1 ∷ 9 ∷ 5 ∷ 13 ∷ [])
    ∷ (7 ∷ 15 ∷ 1 ∷ 9 ∷ 5 ∷ 13 ∷ 3 ∷ 11 ∷ [])
    ∷ (2 ∷ 10 ∷ 6 ∷ 14 ∷ 0 ∷ 8 ∷ 4 ∷ 12 ∷ [])
    ∷ (6 ∷ 14 ∷ 0 ∷ 8 ∷ 4 ∷ 12 ∷ 2 ∷ 10 ∷ [])
    ∷ []

-- the four bits of the point in a state's row and a symbol's column of a table
unfoldable pub point_in : List (List ℕ) → ℕ → ℕ → ℕ
point_in rows state symbol = slice_index point_nibbles (slice_index (slice_index_or rows state []) symbol)

-- the points of half rate
unfoldable pub half_point : ℕ → ℕ → ℕ
half_point state symbol = point_in half_rows state symbol

-- the points of three-quarter rate
unfoldable pub three_quarter_point : ℕ → ℕ → ℕ
three_quarter_point state symbol = point_in three_quarter_rows state symbol

-- the number of bits in which two nibbles differ
unfoldable pub nibble_distance : ℕ → ℕ → ℕ
nibble_distance a b = distance_of (bits_of 4 a) (bits_of 4 b)
