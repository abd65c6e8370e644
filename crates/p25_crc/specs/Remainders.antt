-- Tables of remainders of octets.
use Rattle.std.specs.Prelude.{ℕ, ◌+◌, ◌*◌, ◌^◌, ◌<◌, List, [], slice_index, slice_index_or}
use Rattle.p25_bits.specs.Divisible.{IsRemainder}

-- the entry at an octet v of the table at a position, of four, is the remainder of v · x^(32 + 8 · position) by a divisor of degree 32
unfoldable pub AreRemainders : ℕ → List (List ℕ) → Type 0
AreRemainders divisor tables =
    (place v : ℕ) → place < 4 → v < 256 → IsRemainder divisor 32 (v * 2 ^ (32 + 8 * place)) (slice_index (slice_index_or tables place []) v)
