-- The laws of the tables of points, from tests over the whole table that compute, and the contents of the tables of the code.
use Rattle.std.specs.Prelude.{◌≡◌, ◌≢◌, ℕ, zero, suc, ◌+◌, ◌*◌, ◌^◌, ◌/◌, ◌%◌, ◌<◌, ◌≤◌, Bool, true, false, if◌then◌else◌, ◌==◌, nat_le, nat_lt, ◌&&◌, ◌||◌, List, ◌∷◌, length, replicate, slice_index, refl}
use Rattle.std.proofs.{Common.{inl, inr, sym, subst, arith}, lemmas.Bool.{cases_Bool, leb-true, ltb-true, eqb-true, and_parts}}
use Rattle.std.proofs.lemmas.List.Elements.{All-cons, All-replicate}
use Rattle.p25_bits.specs.{Bits.{bits_of}, Distance.{distance_by, distance_of}, Numbers.{number_bits}}
use Rattle.p25_trellis.specs.{Interleave.{each_fourth, interleaved}, Trellis.{nibbles_from, sent_bits, SomeApart}}
use Rattle.p25_trellis.specs.Tables.{point_nibbles, half_rows, three_quarter_rows, point_in, nibble_distance, half_point, three_quarter_point}

-- the conditions under which a table of points is a rate: there is a state for each symbol and a symbol for each value of its bits, the 48 symbols
-- have as many bits as the octets, each point is four bits, and paths that part differ in at least `apart` bits, some in no more
pub record IsRate (states bits octets apart : ℕ) (point parted : ℕ → ℕ → ℕ) : Type 0 where
  pub states_of_bits : states ≡ 2 ^ bits
  pub few_bits : bits ≤ 3
  pub few_states : states ≤ 8
  pub octets_of_bits : 48 * bits ≡ 8 * octets
  pub some_apart : 0 < apart
  pub nibbles : (state symbol : ℕ) → state < states → symbol < states → point state symbol < 16
  -- paths that are in state 0 at the same time need not differ
  pub together : parted 0 0 ≡ 0
  -- if two paths are in two states, their next steps and the bits by which they must differ afterwards together reach the bound of the two states
  pub stays_parted : (a b x y : ℕ) → a < states → b < states → x < states → y < states → parted a b ≤ nibble_distance (point a x) (point b y) + parted x y
  pub reached : SomeApart states point apart
  -- if two paths leave one state by two symbols, these steps and the bits by which they must differ afterwards together reach `apart`
  pub parts : (state x y : ℕ) → state < states → x < states → y < states → x ≢ y → apart ≤ nibble_distance (point state x) (point state y) + parted x y

-- a rate with a number of bits per symbol whose paths that part differ in at least `apart` bits: the four bits of the point in a state's row and a
-- symbol's column, and the least number of bits in which the paths from two states differ until they meet
pub record TrellisRate (bits apart : ℕ) : Type 0 where
  pub point : ℕ → ℕ → ℕ
  pub parted : ℕ → ℕ → ℕ
  pub laws : IsRate (2 ^ bits) bits (6 * bits) apart point parted

-- a table of symbols has a number for each nibble, with a hexadecimal digit for each state, the last for state 0
unfoldable pub symbol_digit : List ℕ → ℕ → ℕ → ℕ
symbol_digit symbols state nibble = slice_index symbols nibble / 2 ^ (4 * state) % 16

-- the tables of a rate with a number of states: the nibbles of its points, a row for each state; the symbol that transmits a nibble from a state, 8
-- if none does; and the rank of a symbol at a nibble after a state: eight times the number of bits in which its point differs from the nibble, plus
-- the symbol
pub record AreTables (states : ℕ) (point : ℕ → ℕ → ℕ) (nibbles symbols ranks : List ℕ) : Type 0 where
  pub nibbles_long : length nibbles ≡ states * states
  pub nibbles_small : (place : ℕ) → slice_index nibbles place < 16
  pub nibble_at : (state symbol : ℕ) → state < states → symbol < states → slice_index nibbles (state * states + symbol) ≡ point state symbol
  pub symbols_long : length symbols ≡ 16
  pub sends : (state nibble : ℕ) → state < states → nibble < 16 → symbol_digit symbols state nibble < states
      → point state (symbol_digit symbols state nibble) ≡ nibble
  pub none : (state nibble : ℕ) → state < states → nibble < 16 → states ≤ symbol_digit symbols state nibble
      → (symbol_digit symbols state nibble ≡ 8) × ((symbol : ℕ) → symbol < states → point state symbol ≢ nibble)
  pub ranks_long : length ranks ≡ 128 * states
  pub rank_at : (state symbol nibble : ℕ) → state < states → symbol < states → nibble < 16
      → slice_index ranks (8 * (nibble * states + symbol) + state) ≡ 8 * nibble_distance (point state symbol) nibble + symbol
  pub ranks_small : (place : ℕ) → slice_index ranks place ≤ 39

-- the least number of bits in which the half-rate paths from two states differ until they meet
unfoldable pub half_parted : ℕ → ℕ → ℕ
half_parted a b = if a == b then 0 else if a / 2 == b / 2 then 2 else 3

-- the least number of bits in which the three-quarter-rate paths from two states differ until they meet
unfoldable pub three_quarter_parted : ℕ → ℕ → ℕ
three_quarter_parted a b = if a == b then 0 else 1

-- a test is passed by every number below n
unfoldable pub passed_below : ℕ → (ℕ → Bool) → Bool
passed_below zero test = true
passed_below (suc n) test = test n && passed_below n test

-- a test over the numbers below n holds of each of them
pub passed_below-at : (n : ℕ) (test : ℕ → Bool) → passed_below n test ≡ true → (k : ℕ) → k < n → test k ≡ true
unfolding passed_below
passed_below-at zero test passed k below = absurd (omega arith)
passed_below-at (suc n) test passed k below = elim (cases_Bool (k == n)) [
  | inl same ↦ let here = (and_parts (test n) (passed_below n test) passed).0 in subst (λ (i : ℕ). test i ≡ true) (sym (eqb-true k n same)) here
  | inr other ↦ passed_below-at n test (and_parts (test n) (passed_below n test) passed).1 k (smaller other)
]
  where
    smaller : (k == n) ≡ false → k < n
    smaller other = grind (arith, other, below)

-- every point is a nibble
unfoldable pub nibbles_test : ℕ → (ℕ → ℕ → ℕ) → Bool
nibbles_test states point = passed_below states (λ state. passed_below states (λ symbol. nat_lt (point state symbol) 16))

-- from two states on, a step and the bits by which the paths must differ afterwards together reach the bound of the two states
unfoldable pub parted_test : ℕ → (ℕ → ℕ → ℕ) → (ℕ → ℕ → ℕ) → Bool
parted_test states point parted =
    passed_below states (
    λ a. passed_below states (
    λ b. passed_below states (λ x. passed_below states (λ y. nat_le (parted a b) (nibble_distance (point a x) (point b y) + parted x y)))))

-- two symbols from one state, and the bits by which the paths must differ afterwards, differ in at least `apart` bits
unfoldable pub parts_test : ℕ → ℕ → (ℕ → ℕ → ℕ) → (ℕ → ℕ → ℕ) → Bool
parts_test states apart point parted =
    passed_below states (
    λ state. passed_below states (λ x. passed_below states (λ y. x == y || nat_le apart (nibble_distance (point state x) (point state y) + parted x y))))

nibbles-from_test : (states : ℕ) (point : ℕ → ℕ → ℕ) → nibbles_test states point ≡ true → (state symbol : ℕ) → state < states → symbol < states
    → point state symbol < 16
unfolding nibbles_test
nibbles-from_test states point passed state symbol row column =
    ltb-true (point state symbol) 16 (passed_below-at states _ (passed_below-at states _ passed state row) symbol column)

parted-from_test : (states : ℕ) (point parted : ℕ → ℕ → ℕ) → parted_test states point parted ≡ true → (a b x y : ℕ) → a < states → b < states → x < states
    → y < states → parted a b ≤ nibble_distance (point a x) (point b y) + parted x y
unfolding parted_test
parted-from_test states point parted passed a b x y ha hb hx hy =
    leb-true (parted a b) (nibble_distance (point a x) (point b y) + parted x y)
    (passed_below-at states _ (passed_below-at states _ (passed_below-at states _ (passed_below-at states _ passed a ha) b hb) x hx) y hy)

parts-from_test : (states apart : ℕ) (point parted : ℕ → ℕ → ℕ) → parts_test states apart point parted ≡ true → (state x y : ℕ) → state < states
    → x < states → y < states → x ≢ y → apart ≤ nibble_distance (point state x) (point state y) + parted x y
unfolding parts_test
parts-from_test states apart point parted passed state x y hs hx hy other =
    leb-true apart (nibble_distance (point state x) (point state y) + parted x y)
    (second (x == y) _ (passed_below-at states _ (passed_below-at states _ (passed_below-at states _ passed state hs) x hx) y hy)
    (λ same. other (eqb-true x y same)))
  where
    second : (a b : Bool) → (a || b) ≡ true → (a ≡ true → ⊥) → b ≡ true
    second true b h not_a = absurd (not_a refl)
    second false b h not_a = h

-- a table passes the tests, and the path whose first symbol is `first` differs from the path of zeros in `apart` bits
record PassesTests (states first apart : ℕ) (point parted : ℕ → ℕ → ℕ) : Type 0 where
  pub nibbles : nibbles_test states point ≡ true
  pub stays_parted : parted_test states point parted ≡ true
  pub parts : parts_test states apart point parted ≡ true
  pub together : parted 0 0 ≡ 0
  pub distance : distance_of (sent_bits point (replicate 49 0)) (sent_bits point (first ∷ replicate 48 0)) ≡ apart

-- a table that passes these tests is a rate
rate-of_tests : {states bits octets first apart : ℕ} {point parted : ℕ → ℕ → ℕ} → PassesTests states first apart point parted → states ≡ 2 ^ bits
    → bits ≤ 3 → states ≤ 8 → 48 * bits ≡ 8 * octets → 0 < apart → first ≢ 0 → first < states → IsRate states bits octets apart point parted
rate-of_tests {states} {bits} {octets} {first} {apart} {point} {parted} passes same few_bits few_states octets_same some other below = record {
  states_of_bits = same;
  few_bits = few_bits;
  few_states = few_states;
  octets_of_bits = octets_same;
  some_apart = some;
  nibbles = nibbles-from_test states point passes.nibbles;
  together = passes.together;
  stays_parted = parted-from_test states point parted passes.stays_parted;
  reached = record {
    path = replicate 49 0;
    other = first ∷ replicate 48 0;
    is_path = record { long = refl; below = All-replicate (λ (symbol : ℕ). symbol < states) 49 0 (omega (arith, below)); last = refl };
    other_is_path = record {
      long = refl;
      below =
          All-cons (λ (symbol : ℕ). symbol < states) first (replicate 48 0) below
          (All-replicate (λ (symbol : ℕ). symbol < states) 48 0 (omega (arith, below)));
      last = refl;
    };
    differ = λ alike. other (cc);
    places_is = passes.distance;
  };
  parts = parts-from_test states apart point parted passes.parts;
}

half_passes : PassesTests 4 1 5 half_point half_parted
unfolding nibbles_test parted_test parts_test passed_below half_point point_in half_rows point_nibbles half_parted nibble_distance bits_of distance_by sent_bits
    number_bits interleaved each_fourth nibbles_from
half_passes = record { nibbles = refl; stays_parted = refl; parts = refl; together = refl; distance = refl }

pub half_is_rate : IsRate 4 2 12 5 half_point half_parted
half_is_rate = rate-of_tests half_passes refl (omega arith) (omega arith) refl (omega arith) (omega arith) (omega arith)

-- half rate
abbrev pub half_rate : TrellisRate 2 5
half_rate = record { point = half_point; parted = half_parted; laws = half_is_rate }

three_quarter_passes : PassesTests 8 2 3 three_quarter_point three_quarter_parted
unfolding nibbles_test parted_test parts_test passed_below three_quarter_point point_in three_quarter_rows point_nibbles three_quarter_parted nibble_distance
    bits_of distance_by sent_bits number_bits interleaved each_fourth nibbles_from
three_quarter_passes = record { nibbles = refl; stays_parted = refl; parts = refl; together = refl; distance = refl }

pub three_quarter_is_rate : IsRate 8 3 18 3 three_quarter_point three_quarter_parted
three_quarter_is_rate = rate-of_tests three_quarter_passes refl (omega arith) (omega arith) refl (omega arith) (omega arith) (omega arith)

-- three-quarter rate
abbrev pub three_quarter_rate : TrellisRate 3 3
three_quarter_rate = record { point = three_quarter_point; parted = three_quarter_parted; laws = three_quarter_is_rate }
