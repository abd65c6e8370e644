-- The cost of a nibble at a step of a path, if its two dibits are transmitted at a position among the points of a block.
use Rattle.std.specs.Prelude.{◌≡◌, ℕ, ◌+◌, ◌*◌, ◌/◌, ◌%◌, ◌<◌, List, length, ℤ, pos, slice_index, slice_index_or}
use Rattle.p25_trellis.specs.{Interleave.{interleaved}, Costs.{cost_in}}
use Rattle.p25_soft.specs.Levels.{squared_deviation}

-- the deviation of a nibble that is transmitted as the point at a position, whose levels are those at 2·position and 2·position + 1
unfoldable pub point_deviation : List ℤ → ℕ → ℕ → ℕ
point_deviation levels nibble place =
    squared_deviation (nibble / 4) (slice_index_or levels (2 * place) (pos 0)) + squared_deviation (nibble % 4) (slice_index_or levels (2 * place + 1) (pos 0))

-- a table of costs in which a nibble costs its deviation from the two levels transmitted for its step
pub record IsPointTable (levels : List ℤ) (table : List ℕ) : Type 0 where
  pub places : List ℕ
  pub long : length places ≡ 49
  pub in_order : (k : ℕ) → k < 49 → slice_index (interleaved places) k ≡ k
  pub at : (step nibble : ℕ) → step < 49 → nibble < 16 → cost_in table step nibble ≡ point_deviation levels nibble (slice_index places step)
