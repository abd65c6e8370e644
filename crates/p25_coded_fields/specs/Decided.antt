-- A field decoded from the costs of its bits (soft decisions): each inner word is the cheapest codeword, and the outer word is decoded with as few
-- erasures of the least certain symbols as are needed to find a codeword.
use Rattle.std.specs.Prelude.{ℕ, zero, suc, ◌+◌, ◌*◌, ◌<◌, Bool, ◌&&◌, ◌||◌, ◌==◌, nat_lt, if◌then◌else◌, List, replicate, Option, Some, None}
use Rattle.std.specs.Option.{option_or}
use Rattle.p25_bits.specs.{Bits.{bits_of, part}, Numbers.{joined_below}}
use Rattle.p25_code.specs.{LeastCost.{cheapest_information, least_cost, second_cost}, Erasures.{without_erased}}
use Rattle.p25_gf64.specs.declared.symbol.Sym.{Sym}
use Rattle.p25_link.specs.Symbols.{symbols_in}

-- the inner words of a field that is decoded from costs: their number, the bits of each, the symbols of its information, and their encoding
pub record InnerWords : Type 0 where
  pub count : ℕ
  pub size : ℕ
  pub each : ℕ
  pub encoding : List Bool → List Bool

abbrev pub inner_words : ℕ → ℕ → ℕ → (List Bool → List Bool) → InnerWords
inner_words count size each encoding = record { count = count; size = size; each = each; encoding = encoding }

-- the costs of the inner word at a position of the field: four for each pair of its bits
abbrev pub word_costs : ℕ → List ℕ → ℕ → List ℕ
word_costs size costs i = part (2 * size * i) (2 * size) costs

-- the decoded information of that word, its cost, and the least cost of any other codeword of its code
unfoldable pub information_at : InnerWords → List ℕ → ℕ → ℕ
information_at words costs i = cheapest_information words.encoding (6 * words.each) (word_costs words.size costs i)

unfoldable pub least_at : InnerWords → List ℕ → ℕ → ℕ
least_at words costs i = least_cost words.encoding (6 * words.each) (word_costs words.size costs i)

unfoldable pub second_at : InnerWords → List ℕ → ℕ → ℕ
second_at words costs i = second_cost words.encoding (6 * words.each) (word_costs words.size costs i)

-- the symbols of the field as its inner words are decoded
unfoldable pub symbols_read : InnerWords → List ℕ → List Sym
symbols_read words costs = joined_below words.count (λ i. symbols_in words.each (bits_of (6 * words.each) (information_at words costs i)))

-- the order of the inner words, the least certain first: by second cost less twice the least cost, and equal ones by their positions. The word at
-- position i is before the one at position j.
unfoldable pub stands_before : (ℕ → ℕ) → (ℕ → ℕ) → ℕ → ℕ → Bool
stands_before least second i j =
    nat_lt (second i + 2 * least j) (second j + 2 * least i) || (second i + 2 * least j == second j + 2 * least i) && nat_lt i j

-- the number of the first n words that are before the one at position i: its rank in the order, if these are all words
unfoldable pub rank_of : ℕ → (ℕ → ℕ → Bool) → ℕ → ℕ
rank_of zero before i = 0
rank_of (suc n) before i = rank_of n before i + (if before n i then 1 else 0)

unfoldable pub rank_at : InnerWords → List ℕ → ℕ → ℕ
rank_at words costs i = rank_of words.count (stands_before (least_at words costs) (second_at words costs)) i

-- the erased symbols, if a number of them is erased: those of the first words of the order, `each` of a word
unfoldable pub marks_by : ℕ → ℕ → (ℕ → ℕ) → ℕ → List Bool
marks_by each count rank symbols = joined_below count (λ i. replicate each (nat_lt (each * rank i) symbols))

-- the decoding of symbols with a number of pairs of them erased: the outer codeword, or none
unfoldable pub read_marking : (List (Option Sym) → Option (List Sym)) → List Sym → ℕ → ℕ → (ℕ → ℕ) → ℕ → Option (List Sym)
read_marking outer_reading symbols each count rank pairs = outer_reading (without_erased symbols (marks_by each count rank (2 * pairs)))

unfoldable pub read_erasing : InnerWords → (List (Option Sym) → Option (List Sym)) → List ℕ → ℕ → Option (List Sym)
read_erasing words outer_reading costs = read_marking outer_reading (symbols_read words costs) words.each words.count (rank_at words costs)

-- the first of n decodings that finds something, or none
unfoldable pub first_found : {X : Type 0} → ℕ → (ℕ → Option X) → Option X
first_found zero reading = None
first_found (suc n) reading = option_or (first_found n reading) (reading n)

-- the outer codeword of the field, with as few pairs of symbols erased as are needed to find one, or none if up to the given number none is found
unfoldable pub word_decided : InnerWords → (List (Option Sym) → Option (List Sym)) → ℕ → List ℕ → Option (List Sym)
word_decided words outer_reading most costs = first_found (suc most) (read_erasing words outer_reading costs)

-- the symbols of the field as it is written: the outer codeword or, if there is none, those of the inner words as they are decoded
abbrev pub symbols_or : List Sym → Option (List Sym) → List Sym
symbols_or symbols (Some word) = word
symbols_or symbols None = symbols

unfoldable pub symbols_decided : InnerWords → (List (Option Sym) → Option (List Sym)) → ℕ → List ℕ → List Sym
symbols_decided words outer_reading most costs = symbols_or (symbols_read words costs) (word_decided words outer_reading most costs)
