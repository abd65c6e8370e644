-- The number of positions in which two lists differ (the Hamming distance of coding theory).
use Rattle.std.specs.{Prelude.{ℕ, ◌+◌, Bool, if◌then◌else◌, List, [], ◌∷◌}, Bool.{beq}}

-- the number of positions within both lists at which a test calls their letters different
unfoldable pub distance_by : {X : Type 0} → (X → X → Bool) → List X → List X → ℕ
distance_by same [] ys = 0
distance_by same (x ∷ xs) [] = 0
distance_by same (x ∷ xs) (y ∷ ys) = (if same x y then 0 else 1) + distance_by same xs ys

-- the number of positions in which two lists of bits differ
abbrev pub distance_of : List Bool → List Bool → ℕ
distance_of = distance_by beq
