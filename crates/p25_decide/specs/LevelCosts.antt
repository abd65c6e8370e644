-- The costs of dibits at soft symbols: the square of the distance of a level from that of the dibit, of which 96 counts at most.
use Rattle.std.specs.Prelude.{ℕ, ◌+◌, ◌*◌, ◌/◌, List, [], ◌∷◌, length, ℤ, pos, ◌-ℤ◌, unsigned_abs, min, slice_index, slice_index_or}
use Rattle.p25_bits.specs.Numbers.{joined_below}
use Rattle.p25_soft.specs.{Levels.{nominal_level}, Softened.{sent_dibit}}

-- the cost of a dibit at a level
unfoldable pub level_cost : ℤ → ℕ → ℕ
level_cost level dibit = let apart = min (unsigned_abs (level -ℤ nominal_level dibit)) 96 in apart * apart

-- the costs of the four dibits at a level
unfoldable pub level_costs : ℤ → List ℕ
level_costs level = level_cost level 0 ∷ level_cost level 1 ∷ level_cost level 2 ∷ level_cost level 3 ∷ []

-- the costs of so many dibits of a unit without its status symbols, from one on, by the soft symbols of the unit
unfoldable pub word_level_costs : List ℤ → ℕ → ℕ → List ℕ
word_level_costs levels first count = joined_below count (λ i. level_costs (slice_index_or levels (sent_dibit (first + i)) (pos 0)))

-- the costs of inner words of `size` bits each at positions of a unit without its status symbols, one word after the other
unfoldable pub field_costs : ℕ → List ℕ → List ℤ → List ℕ
field_costs size places levels = joined_below (length places) (λ i. word_level_costs levels (slice_index places i / 2) (size / 2))
