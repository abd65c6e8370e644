-- Binary codes by the columns of a check matrix. A column is a number whose bits are the checks that include its position.
use Rattle.std.specs.{Prelude.{◌≡◌, ℕ, zero, suc, ◌+◌, ◌^◌, Bool, if◌then◌else◌, nat_lt, List, [], ◌∷◌, ◌++◌, length, bit_xor}, Bool.{beq}, List.{list_all}}
use Rattle.p25_bits.specs.Bits.{digit_of, bits_of}

-- the syndrome of a word: the sum over GF(2) of the columns at whose positions the word is 1
unfoldable pub syndrome_of : List ℕ → List Bool → ℕ
syndrome_of [] word = 0
syndrome_of (column ∷ columns) [] = 0
syndrome_of (column ∷ columns) (bit ∷ word) = bit_xor (if bit then column else 0) (syndrome_of columns word)

-- the words that pass a check matrix: those of its length with the syndrome 0
pub record IsChecked (columns : List ℕ) (word : List Bool) : Type 0 where
  pub long : length word ≡ length columns
  pub passes : syndrome_of columns word ≡ 0

-- the columns of the check bits: each is part of one check of its own, the first of the highest
unfoldable pub check_columns : ℕ → List ℕ
check_columns zero = []
check_columns (suc checks) = 2 ^ checks ∷ check_columns checks

-- each row has a bit for each check and no other
abbrev pub rows_fit : ℕ → List ℕ → Bool
rows_fit checks rows = list_all (λ row. nat_lt row (2 ^ checks)) rows

-- the systematic word: the information, then the sum of the rows at whose positions the information is 1
unfoldable pub systematic : List ℕ → ℕ → List Bool → List Bool
systematic rows checks info = info ++ bits_of checks (syndrome_of rows info)

-- the weight of a word: the number of its bits that are 1
unfoldable pub weight_of : List Bool → ℕ
weight_of [] = 0
weight_of (bit ∷ word) = digit_of bit + weight_of word

-- the difference of the syndromes of two words: the sum of the columns at the positions in which they differ
unfoldable pub change_of : List ℕ → List Bool → List Bool → ℕ
change_of [] old new = 0
change_of (column ∷ columns) [] new = 0
change_of (column ∷ columns) (x ∷ old) [] = 0
change_of (column ∷ columns) (x ∷ old) (y ∷ new) = bit_xor (if beq x y then 0 else column) (change_of columns old new)
