-- The cost of a path in the table of points is the deviation of its transmitted bits from the levels: step by step along the path, then in the order
-- of transmission.
use Rattle.std.proofs.Common.{◌≡◌, ◌≢◌, ℕ, suc, ◌+◌, ◌*◌, ◌/◌, ◌%◌, ◌<◌, ◌&&◌, Bool, true, eqb, List, [], ◌∷◌, ◌++◌, length, drop, get_or, set, refl, ap, ap₂, sym, ◌∙◌, arith, All, below_more, get_or-set_same, get_or-set_other, ℤ, pos}
use Rattle.std.proofs.{lemmas.Bool.{eqb-true, and_parts}, lemmas.List.{drop_more}, lemmas.List.Elements.{All-head, All-tail, All-from_get_or}}
use Rattle.std.specs.Int.{bit_at}
use Rattle.p25_bits.specs.{Bits.{bits_of, digit_of}, Numbers.{number_bits}}
use Rattle.p25_trellis.specs.{Interleave.{interleaved}, Trellis.{IsPath, nibbles_from, sent_bits}, Costs.{symbols_cost, path_cost, cost_in}, TableLaws.{passed_below, passed_below-at}}
use Rattle.p25_trellis.proofs.{InterleaveLaws.{weighed, weighed-interleaved, length-interleaved, All-interleaved, All-from_interleaved}, PathLaws.{length-nibbles_from}}
use Rattle.p25_trellis.proofs.DistanceLaws.{All-nibbles_from, total_cost-weighed, weighed-drop}
use Rattle.p25_soft.specs.{Levels.{squared_deviation, deviation_of, bits_deviation, dibits_of}, SoftPaths.{soft_cost}, PointCosts.{IsPointTable, point_deviation}}

-- positions that are transmitted in order are positions
pub All-places : (places : List ℕ) → length places ≡ 49 → ((k : ℕ) → k < 49 → get_or (interleaved places) k 0 ≡ k) → All (λ place. place < 49) places
All-places places long in_order =
    All-from_interleaved (λ (place : ℕ). place < 49) places
    (All-from_get_or (λ (place : ℕ). place < 49) (interleaved places) 0 (λ k inside. let here : k < 49 = omega (arith, length-interleaved places) in omega (arith, in_order k here)))

-- one more position is written in order
pub places_more : (places : List ℕ) (place : ℕ) → place < length places → ((k : ℕ) → k < place → get_or places k 0 ≡ k) → (k : ℕ) → k < place + 1 → get_or (set places place place) k 0 ≡ k
places_more places place inside so_far =
    below_more (λ k. get_or (set places place place) k 0 ≡ k) place
    (λ k below. let other : k ≢ place = omega arith in get_or-set_other places place k place 0 other ∙ so_far k below)
    (get_or-set_same places place place 0 inside)

-- all entries are the table
pub IsPointTable-from : (levels : List ℤ) (places costs : List ℕ) → length places ≡ 49 → ((k : ℕ) → k < 49 → get_or (interleaved places) k 0 ≡ k)
    → ((k : ℕ) → k < 784 → get_or costs k 0 ≡ point_deviation levels (k % 16) (get_or places (k / 16) 0)) → IsPointTable levels costs
unfolding cost_in
IsPointTable-from levels places costs long in_order entries = record {
  places = places;
  long = long;
  in_order = in_order;
  at = λ step nibble early small.
      let inside : 16 * step + nibble < 784 = omega arith in
      let column : (16 * step + nibble) % 16 ≡ nibble = omega arith in
      let row : (16 * step + nibble) / 16 ≡ step = omega arith in
      entries (16 * step + nibble) inside ∙ ap₂ (λ n r. point_deviation levels n (get_or places r 0)) column row;
}

-- a bit of a number
abbrev bit_of : ℕ → ℕ → Bool
bit_of n place = eqb (bit_at n place) 1

point_deviation-is : (levels : List ℤ) (nibble place : ℕ)
    → point_deviation levels nibble place ≡ squared_deviation (nibble / 4) (get_or levels (2 * place) (pos 0)) + squared_deviation (nibble % 4) (get_or levels (2 * place + 1) (pos 0))
unfolding point_deviation
point_deviation-is levels nibble place = refl

-- the two dibits of a nibble
nibble_test : passed_below 16 (λ n. eqb (2 * digit_of (bit_of n 3) + digit_of (bit_of n 2)) (n / 4) && eqb (2 * digit_of (bit_of n 1) + digit_of (bit_of n 0)) (n % 4)) ≡ true
unfolding passed_below
nibble_test = refl

pub dibits_of-nibble : (n : ℕ) (rest : List Bool) → n < 16 → dibits_of (bits_of 4 n ++ rest) ≡ n / 4 ∷ n % 4 ∷ dibits_of rest
unfolding dibits_of bits_of
dibits_of-nibble n rest small =
    let both = and_parts _ _ (passed_below-at 16 (λ k. eqb (2 * digit_of (bit_of k 3) + digit_of (bit_of k 2))
    (k / 4) && eqb (2 * digit_of (bit_of k 1) + digit_of (bit_of k 0)) (k % 4)) nibble_test n small) in
    ap₂ (λ a b. a ∷ b ∷ dibits_of rest) (eqb-true _ _ both.0) (eqb-true _ _ both.1)

deviation_of-two : (a b : ℕ) (dibits : List ℕ) (first second : ℤ) (levels : List ℤ)
    → deviation_of (a ∷ b ∷ dibits) (first ∷ second ∷ levels) ≡ squared_deviation a first + squared_deviation b second + deviation_of dibits levels
unfolding deviation_of
deviation_of-two a b dibits first second levels = omega arith

-- nibbles that are transmitted from a position on cost the deviation of their dibits from the levels there
weighed-places : (levels : List ℤ) (places : List ℕ) → length levels ≡ 98 → length places ≡ 49 → ((k : ℕ) → k < 49 → get_or places k 0 ≡ k)
    → (nibbles : List ℕ) (k : ℕ) → k + length nibbles ≡ 49 → All (λ n. n < 16) nibbles
    → weighed (point_deviation levels) nibbles (drop k places) ≡ bits_deviation (number_bits 4 nibbles) (drop (2 * k) levels)
unfolding weighed bits_deviation number_bits dibits_of deviation_of
weighed-places levels places many long in_order [] k whole small = refl
weighed-places levels places many long in_order (nibble ∷ nibbles) k whole small =
    let P : ℕ → Type 0 = λ n. n < 16 in
    let inside : k < length places = omega arith in
    let early : k < 49 = omega arith in
    let next : suc k + length nibbles ≡ 49 = omega arith in
    let first : 2 * k < length levels = omega arith in
    let second : 2 * k + 1 < length levels = omega arith in
    let behind : 2 * k + 1 + 1 ≡ 2 * suc k = omega arith in
    let left : drop (2 * k) levels ≡ get_or levels (2 * k) (pos 0) ∷ get_or levels (2 * k + 1) (pos 0) ∷ drop (2 * suc k) levels
    = drop_more levels (2 * k) (pos 0) first
    ∙ ap (λ (ls : List ℤ). get_or levels (2 * k) (pos 0) ∷ ls)
    (drop_more levels (2 * k + 1) (pos 0) second ∙ ap (λ n. get_or levels (2 * k + 1) (pos 0) ∷ drop n levels) behind) in
    weighed-drop (point_deviation levels) nibble nibbles places k 0 inside
    ∙ ap₂ ◌+◌ (ap (point_deviation levels nibble) (in_order k early) ∙ point_deviation-is levels nibble k)
    (weighed-places levels places many long in_order nibbles (suc k) next (All-tail P nibble nibbles small))
    ∙ sym
    (
    ap₂ deviation_of (dibits_of-nibble nibble (number_bits 4 nibbles) (All-head P nibble nibbles small)) left
    ∙ deviation_of-two (nibble / 4) (nibble % 4) (dibits_of (number_bits 4 nibbles)) (get_or levels (2 * k) (pos 0)) (get_or levels (2 * k + 1) (pos 0)) (drop (2 * suc k) levels)
    )

-- the cost of a path in the table is its cost by the levels
pub path_cost-soft : (states : ℕ) (point : ℕ → ℕ → ℕ) (levels : List ℤ) (costs : List ℕ) → 0 < states
    → ((state symbol : ℕ) → state < states → symbol < states → point state symbol < 16) → IsPointTable levels costs → length levels ≡ 98
    → (path : List ℕ) → IsPath states path → path_cost point (cost_in costs) path ≡ soft_cost point levels path
unfolding symbols_cost sent_bits soft_cost
path_cost-soft states point levels costs some small table many path is =
    let nibbles = nibbles_from point 0 path in
    let count : length nibbles ≡ 49 = length-nibbles_from point 0 path ∙ is.long in
    let whole : 0 + length nibbles ≡ 49 = omega arith in
    let sent_whole : 0 + length (interleaved nibbles) ≡ 49 = omega (arith, length-interleaved nibbles) in
    let sent_long : length (interleaved table.places) ≡ 49 = length-interleaved table.places ∙ table.long in
    let all = All-nibbles_from states point small 0 path some is.below in
    total_cost-weighed (point_deviation levels) table.places 0 (cost_in costs) table.at table.long 0 nibbles whole all
    ∙ sym (weighed-interleaved (point_deviation levels) nibbles table.places (count ∙ sym table.long))
    ∙ weighed-places levels (interleaved table.places) many sent_long table.in_order (interleaved nibbles) 0 sent_whole (All-interleaved (λ (n : ℕ). n < 16) nibbles all)
