-- Decoding by the costs of bits (soft decisions). The bits of a word come in pairs. Costs are a list of four numbers for each pair, the costs of 00,
-- 01, 10 and 11.
use Rattle.std.specs.Prelude.{◌≡◌, ◌≢◌, ℕ, ◌+◌, ◌*◌, ◌-◌, ◌/◌, ◌^◌, ◌<◌, ◌≤◌, Bool, List, [], ◌∷◌, ◌++◌, length, replicate, drop, take, slice_index}
use Rattle.p25_bits.specs.{Bits.{digit_of, bits_of, field_of}, Distance.{distance_of}, Least.{lowest_least, least_beside}}

-- the cost of a word: the sum over its pairs of bits
unfoldable pub pairs_cost : List ℕ → List Bool → ℕ
pairs_cost costs [] = 0
pairs_cost costs (bit ∷ []) = 0
pairs_cost costs (high ∷ low ∷ bits) = slice_index costs (2 * digit_of high + digit_of low) + pairs_cost (drop 4 costs) bits

-- the cost of the codeword of an information of k bits, by the number that the information writes
unfoldable pub information_cost : (List Bool → List Bool) → ℕ → List ℕ → ℕ → ℕ
information_cost encoding k costs info = pairs_cost costs (encoding (bits_of k info))

-- the information of the decoded codeword: the lowest number among those whose codewords cost least
unfoldable pub cheapest_information : (List Bool → List Bool) → ℕ → List ℕ → ℕ
cheapest_information encoding k costs = lowest_least (2 ^ k) (information_cost encoding k costs)

-- the decoded codeword
abbrev pub cheapest_word : (List Bool → List Bool) → ℕ → List ℕ → List Bool
cheapest_word encoding k costs = encoding (bits_of k (cheapest_information encoding k costs))

-- its cost
unfoldable pub least_cost : (List Bool → List Bool) → ℕ → List ℕ → ℕ
least_cost encoding k costs = information_cost encoding k costs (cheapest_information encoding k costs)

-- the least cost of any other codeword
unfoldable pub second_cost : (List Bool → List Bool) → ℕ → List ℕ → ℕ
second_cost encoding k costs = least_beside (2 ^ k) (information_cost encoding k costs) (cheapest_information encoding k costs)

-- a codeword of the set; no codeword of the set costs less, and none of the same cost has a lower information
pub record IsCheapest (IsWord : List Bool → Type 0) (k : ℕ) (costs : List ℕ) (word : List Bool) : Type 0 where
  pub word_of_set : IsWord word
  pub none_less : (other : List Bool) → IsWord other → pairs_cost costs word ≤ pairs_cost costs other
  pub first : (other : List Bool) → IsWord other → pairs_cost costs other ≡ pairs_cost costs word → field_of (take k word) ≤ field_of (take k other)

-- every other list of as many bits costs more
pub record IsAlone (costs : List ℕ) (bits : List Bool) : Type 0 where
  pub dearer : (other : List Bool) → length other ≡ length bits → other ≢ bits → pairs_cost costs bits < pairs_cost costs other

-- costs that separate the values of pairs of bits: two values of a pair together cost at least twice the margin for each bit in which they differ
pub record IsSpread (margin pairs : ℕ) (costs : List ℕ) : Type 0 where
  pub apart : (i s t : ℕ) → i < pairs → s < 4 → t < 4
      → 2 * (margin * distance_of (bits_of 2 s) (bits_of 2 t)) ≤ slice_index costs (4 * i + s) + slice_index costs (4 * i + t)

-- a table of the cost of each value of six bits in each of four groups, for 24 bits that end in those with costs; the bits before them cost nothing
pub record IsSumTable (costs sums : List ℕ) : Type 0 where
  pub at : (k : ℕ) → k < 256 → slice_index sums k ≡ pairs_cost (drop (12 * (k / 64)) (replicate (48 - length costs) 0 ++ costs)) (bits_of 6 k)
