-- The cost of a path, by a cost for each nibble at each step.
use Rattle.std.specs.Prelude.{ℕ, suc, ◌+◌, ◌*◌, List, [], ◌∷◌, slice_index}
use Rattle.p25_trellis.specs.{Tables.{nibble_distance}, Trellis.{nibbles_from}}

-- the cost of nibbles from a step on, by a cost for each nibble at each step
unfoldable pub total_cost : (ℕ → ℕ → ℕ) → ℕ → List ℕ → ℕ
total_cost cost step [] = 0
total_cost cost step (nibble ∷ nibbles) = cost step nibble + total_cost cost (suc step) nibbles

-- the cost of symbols from a step and a state on
unfoldable pub symbols_cost : (ℕ → ℕ → ℕ) → (ℕ → ℕ → ℕ) → ℕ → ℕ → List ℕ → ℕ
symbols_cost point cost step state symbols = total_cost cost step (nibbles_from point state symbols)

-- the cost of a whole path
abbrev pub path_cost : (ℕ → ℕ → ℕ) → (ℕ → ℕ → ℕ) → List ℕ → ℕ
path_cost point cost path = symbols_cost point cost 0 0 path

-- a table of costs has 16 for each step
unfoldable pub cost_in : List ℕ → ℕ → ℕ → ℕ
cost_in table step nibble = slice_index table (16 * step + nibble)

-- a nibble costs its distance from the received nibble of its step
unfoldable pub received_cost : List ℕ → ℕ → ℕ → ℕ
received_cost received step nibble = nibble_distance nibble (slice_index received step)
