-- The order in which the nibbles of a path are transmitted.
use Rattle.std.specs.Prelude.{ℕ, zero, suc, List, [], ◌∷◌, ◌++◌}

-- the elements at positions `wait`, `wait` + 4, `wait` + 8 and so on
unfoldable pub each_fourth : {X : Type 0} → ℕ → List X → List X
each_fourth wait [] = []
each_fourth zero (x ∷ xs) = x ∷ each_fourth 3 xs
each_fourth (suc wait) (x ∷ xs) = each_fourth wait xs

-- a list in the order of transmission: the elements at positions 0 modulo 4 first, then those at 1, 2 and 3 modulo 4
unfoldable pub interleaved : {X : Type 0} → List X → List X
interleaved xs = each_fourth 0 xs ++ each_fourth 1 xs ++ each_fourth 2 xs ++ each_fourth 3 xs
