-- The tables of the two rates have the contents of the points: each entry is compared, and the comparison computes.
use Rattle.std.proofs.Common.{◌≡◌, ◌≢◌, ℕ, ◌+◌, ◌*◌, ◌<◌, ◌≤◌, inl, inr, Bool, true, false, eqb, ltb, ◌||◌, ◌&&◌, not, List, length, get_or, refl, sym, ◌∙◌, arith}
use Rattle.std.proofs.{lemmas.Bool.{eq-eqb, eqb-true, le-ltb, ltb-true, cases_lt, lt-ltb}, lemmas.List.{get_or_past}}
use Rattle.std.specs.Cmp.{first_so, second_so}
use Rattle.p25_bits.specs.{Bits.{bits_of}, Distance.{distance_by}}
use Rattle.p25_trellis.specs.declared.tables.TheConstants.{HALF_NIBBLES, HALF_SYMBOLS, HALF_RANKS, THREE_QUARTER_NIBBLES, THREE_QUARTER_SYMBOLS, THREE_QUARTER_RANKS}
use Rattle.p25_trellis.specs.Tables.{point_nibbles, half_rows, three_quarter_rows, point_in, half_point, three_quarter_point, nibble_distance}
use Rattle.p25_trellis.specs.TableLaws.{AreTables, symbol_digit, passed_below, passed_below-at}

-- every entry is the nibble of its row and its column
unfoldable nibble_test : ℕ → (ℕ → ℕ → ℕ) → List ℕ → Bool
nibble_test states point nibbles = passed_below states (λ state. passed_below states (λ symbol. eqb (get_or nibbles (state * states + symbol) 0) (point state symbol)))

nibble-from_test : (states : ℕ) (point : ℕ → ℕ → ℕ) (nibbles : List ℕ) → nibble_test states point nibbles ≡ true → (state symbol : ℕ) → state < states → symbol < states
    → get_or nibbles (state * states + symbol) 0 ≡ point state symbol
unfolding nibble_test
nibble-from_test states point nibbles passed state symbol row column = eqb-true _ _ (passed_below-at states _ (passed_below-at states _ passed state row) symbol column)

-- every entry that is a symbol transmits the nibble of its position
unfoldable sending_test : ℕ → (ℕ → ℕ → ℕ) → List ℕ → Bool
sending_test states point symbols =
    passed_below 16 (λ nibble. passed_below states (λ state. not (ltb (symbol_digit symbols state nibble) states) || eqb (point state (symbol_digit symbols state nibble)) nibble))

second : (a b : Bool) → (not a || b) ≡ true → a ≡ true → b ≡ true
second true b h is = h
second false b h is = absurd (cc)

sends-from_test : (states : ℕ) (point : ℕ → ℕ → ℕ) (symbols : List ℕ) → sending_test states point symbols ≡ true → (state nibble : ℕ) → state < states → nibble < 16
    → symbol_digit symbols state nibble < states → point state (symbol_digit symbols state nibble) ≡ nibble
unfolding sending_test
sends-from_test states point symbols passed state nibble row small is =
    eqb-true _ _ (second _ _ (passed_below-at states _ (passed_below-at 16 _ passed nibble small) state row) (lt-ltb _ _ is))

-- every other entry is 8, and no symbol transmits the nibble of its position
unfoldable none_test : ℕ → (ℕ → ℕ → ℕ) → List ℕ → Bool
none_test states point symbols =
    passed_below 16 (
    λ nibble. passed_below states (
    λ state. ltb (symbol_digit symbols state nibble) states
    || (eqb (symbol_digit symbols state nibble) 8 && passed_below states (λ symbol. not (eqb (point state symbol) nibble)))))

other : (a b : Bool) → (a || b) ≡ true → a ≡ false → b ≡ true
other true b h is = absurd (cc)
other false b h is = h

none-from_test : (states : ℕ) (point : ℕ → ℕ → ℕ) (symbols : List ℕ) → none_test states point symbols ≡ true → (state nibble : ℕ) → state < states → nibble < 16
    → states ≤ symbol_digit symbols state nibble
    → (symbol_digit symbols state nibble ≡ 8) × ((symbol : ℕ) → symbol < states → point state symbol ≢ nibble)
unfolding none_test
none-from_test states point symbols passed state nibble row small past =
    let entry = symbol_digit symbols state nibble in
    let both = other _ _ (passed_below-at states _ (passed_below-at 16 _ passed nibble small) state row) (le-ltb entry states past) in (
      eqb-true entry 8 (first_so _ _ both),
      λ symbol inside same.
          let two : false ≡ true = sym (simp eq-eqb) ∙ (passed_below-at states (λ s. not (eqb (point state s) nibble)) (second_so _ _ both) symbol inside) in absurd (cc),
    )

-- every entry is the rank of its position
unfoldable ranks_test : ℕ → (ℕ → ℕ → ℕ) → List ℕ → Bool
ranks_test states point ranks =
    passed_below 16 (
    λ nibble. passed_below states (
    λ symbol. passed_below states (λ state. eqb (get_or ranks (8 * (nibble * states + symbol) + state) 0) (8 * nibble_distance (point state symbol) nibble + symbol))))

rank-from_test : (states : ℕ) (point : ℕ → ℕ → ℕ) (ranks : List ℕ) → ranks_test states point ranks ≡ true → (state symbol nibble : ℕ) → state < states
    → symbol < states → nibble < 16 → get_or ranks (8 * (nibble * states + symbol) + state) 0 ≡ 8 * nibble_distance (point state symbol) nibble + symbol
unfolding ranks_test
rank-from_test states point ranks passed state symbol nibble row column small =
    eqb-true _ _ (passed_below-at states _ (passed_below-at states _ (passed_below-at 16 _ passed nibble small) symbol column) state row)

-- no entry reaches a bound
small-from_test : (count bound : ℕ) (entries : List ℕ) → length entries ≡ count → 0 < bound → passed_below count (λ i. ltb (get_or entries i 0) bound) ≡ true → (place : ℕ)
    → get_or entries place 0 < bound
small-from_test count bound entries long some passed place = elim (cases_lt place count) [
  | inl there ↦ ltb-true _ _ (passed_below-at count (λ i. ltb (get_or entries i 0) bound) passed place there)
  | inr past ↦ omega (arith, some, get_or_past entries place 0 (omega (arith, long, past)))
]

-- the tests that the tables of a rate pass
record TablesPass (states : ℕ) (point : ℕ → ℕ → ℕ) (nibbles symbols ranks : List ℕ) : Type 0 where
  long : (length nibbles ≡ states * states) × (length symbols ≡ 16) × (length ranks ≡ 128 * states)
  small : passed_below (states * states) (λ i. ltb (get_or nibbles i 0) 16) ≡ true
  low : passed_below (128 * states) (λ i. ltb (get_or ranks i 0) 40) ≡ true
  nibble_at : nibble_test states point nibbles ≡ true
  sends : sending_test states point symbols ≡ true
  none : none_test states point symbols ≡ true
  rank_at : ranks_test states point ranks ≡ true

are_tables : {states : ℕ} {point : ℕ → ℕ → ℕ} {nibbles symbols ranks : List ℕ} → TablesPass states point nibbles symbols ranks → AreTables states point nibbles symbols ranks
are_tables {states} {point} {nibbles} {symbols} {ranks} passes = record {
  nibbles_long = passes.long.0;
  nibbles_small = small-from_test (states * states) 16 nibbles passes.long.0 (omega arith) passes.small;
  nibble_at = nibble-from_test states point nibbles passes.nibble_at;
  symbols_long = passes.long.1;
  sends = sends-from_test states point symbols passes.sends;
  none = none-from_test states point symbols passes.none;
  ranks_long = passes.long.2;
  rank_at = rank-from_test states point ranks passes.rank_at;
  ranks_small = λ place. omega (arith, small-from_test (128 * states) 40 ranks passes.long.2 (omega arith) passes.low place);
}

half_pass : TablesPass 4 half_point HALF_NIBBLES HALF_SYMBOLS HALF_RANKS
unfolding nibble_test sending_test none_test ranks_test passed_below symbol_digit half_point point_in half_rows point_nibbles nibble_distance bits_of distance_by
half_pass = record { long = (refl, refl, refl); small = refl; low = refl; nibble_at = refl; sends = refl; none = refl; rank_at = refl }

pub half_are_tables : AreTables 4 half_point HALF_NIBBLES HALF_SYMBOLS HALF_RANKS
half_are_tables = are_tables half_pass

three_quarter_pass : TablesPass 8 three_quarter_point THREE_QUARTER_NIBBLES THREE_QUARTER_SYMBOLS THREE_QUARTER_RANKS
unfolding nibble_test sending_test none_test ranks_test passed_below symbol_digit three_quarter_point point_in three_quarter_rows point_nibbles nibble_distance bits_of distance_by
three_quarter_pass = record { long = (refl, refl, refl); small = refl; low = refl; nibble_at = refl; sends = refl; none = refl; rank_at = refl }

pub three_quarter_are_tables : AreTables 8 three_quarter_point THREE_QUARTER_NIBBLES THREE_QUARTER_SYMBOLS THREE_QUARTER_RANKS
three_quarter_are_tables = are_tables three_quarter_pass
