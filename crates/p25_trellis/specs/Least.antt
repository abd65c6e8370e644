-- The least cost after a state, for the two passes over a path.
use Rattle.std.specs.Prelude.{◌≡◌, ℕ, zero, suc, ◌+◌, ◌*◌, ◌<◌, ◌≤◌, List, [], ◌∷◌, slice_index}
use Rattle.p25_bits.specs.Least.{IsLowestLeast}
use Rattle.p25_trellis.specs.Costs.{symbols_cost}

-- a table of the costs of rests of paths has 8 for each step, one for each state
unfoldable pub rest_in : List ℕ → ℕ → ℕ → ℕ
rest_in table step state = slice_index table (8 * step + state)

-- the end of a path: some symbols below the number of states, then 0
abbrev pub IsEnd : ℕ → ℕ → List ℕ → Type 0
IsEnd states zero symbols = symbols ≡ 0 ∷ []
IsEnd states (suc before) [] = ⊥
IsEnd states (suc before) (symbol ∷ symbols) = (symbol < states) × IsEnd states before symbols

-- some end of a path, with `before` symbols before its 0, has this cost from a state and step on, and none costs less
pub record IsLeastEnd (states before : ℕ) (cost : List ℕ → ℕ) (least : ℕ) : Type 0 where
  pub end : List ℕ
  pub is_end : IsEnd states before end
  pub costs : cost end ≡ least
  pub none_less : (other : List ℕ) → IsEnd states before other → least ≤ cost other

-- a table has the least cost of an end for each state, from a step on
pub record HasLeastFrom (states : ℕ) (point cost : ℕ → ℕ → ℕ) (table : List ℕ) (from : ℕ) : Type 0 where
  pub at : (step before state : ℕ) → from ≤ step → step + before ≡ 48 → state < states
      → IsLeastEnd states before (symbols_cost point cost step state) (rest_in table step state)

-- the cost of a symbol and what follows it
unfoldable pub step_cost : (ℕ → ℕ → ℕ) → (ℕ → ℕ → ℕ) → List ℕ → ℕ → ℕ → ℕ → ℕ
step_cost point cost rests step state symbol = cost step (point state symbol) + rest_in rests (suc step) symbol

-- besides a table of the costs of rests another one has, for each state at each step from one on, the lowest symbol with which a rest of that cost
-- begins
pub record HasLowestFrom (states : ℕ) (point cost : ℕ → ℕ → ℕ) (rests symbols : List ℕ) (from : ℕ) : Type 0 where
  pub at : (step state : ℕ) → from ≤ step → step < 48 → state < states
      → IsLowestLeast states (step_cost point cost rests step state) (rest_in symbols step state) (rest_in rests step state)

-- a function gives, at each step and from each state, the lowest of the symbols that cost least with their rest
pub record Chooses (states : ℕ) (point cost : ℕ → ℕ → ℕ) (rests : List ℕ) (answers : ℕ → ℕ → ℕ → Type 0) : Type 0 where
  pub at : (step state symbol : ℕ) → step < 48 → state < states → answers step state symbol
      → (least : ℕ) × IsLowestLeast states (step_cost point cost rests step state) symbol least
