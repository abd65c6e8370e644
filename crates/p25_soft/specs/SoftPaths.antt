-- The soft path of the levels of a block: the path whose nominal levels deviate least from them.
use Rattle.std.specs.Prelude.{ℕ, ◌*◌, Bool, List, ℤ, take}
use Rattle.p25_bits.specs.Numbers.{number_bits, octets_from}
use Rattle.p25_trellis.specs.{Nearest.{first_least_end}, Trellis.{sent_bits}}
use Rattle.p25_soft.specs.Levels.{bits_deviation}

-- the cost of a path by levels: the sum, over the 98 dibits of its transmitted bits, of the square of level minus nominal level
unfoldable pub soft_cost : (ℕ → ℕ → ℕ) → List ℤ → List ℕ → ℕ
soft_cost point levels path = bits_deviation (sent_bits point path) levels

-- the soft path: the first in dictionary order of the paths that cost least
unfoldable pub soft_path : ℕ → (ℕ → ℕ → ℕ) → List ℤ → List ℕ
soft_path states point levels = first_least_end states 48 (soft_cost point levels)

-- the octets of the soft path
unfoldable pub soft_octets : ℕ → ℕ → (ℕ → ℕ → ℕ) → List ℤ → List ℕ
soft_octets states width point levels = octets_from (6 * width) (number_bits width (take 48 (soft_path states point levels)))

-- the transmitted bits of the soft path
unfoldable pub soft_block : ℕ → (ℕ → ℕ → ℕ) → List ℤ → List Bool
soft_block states point levels = sent_bits point (soft_path states point levels)
