-- Costs of soft symbols: their number, a bound for each, and that they separate dibits. The distance of two soft symbols is at most the sum of their distances
-- from a third, also if 96 counts at most, and the square of a sum is at most twice the sum of the squares.
use Rattle.std.proofs.Common.{◌≡◌, ℕ, zero, suc, ◌+◌, ◌*◌, ◌^◌, ◌<◌, ◌≤◌, true, leb, List, [], ◌∷◌, length, get_or, All, refl, ap, sym, ◌∙◌, arith, ℤ, pos, ◌-ℤ◌}
use Rattle.std.proofs.{Math.Nat.{mul-le-mul}, lemmas.Bool.{leb-true}, lemmas.Int.{ints}, lemmas.List.Elements.{All-nil, All-cons}}
use Rattle.std.specs.Prelude.{unsigned_abs, min, slice_index_or}
use Rattle.p25_bits.specs.{Bits.{bits_of}, Numbers.{joined_below}, Distance.{distance_by, distance_of}}
use Rattle.p25_bits.proofs.{NumbersLaws.{length-joined_below, part-joined_below, All-joined_below}, PartLaws.{get_or-part}}
use Rattle.p25_code.specs.LeastCost.{IsSpread}
use Rattle.p25_soft.specs.{Levels.{nominal_level}, Softened.{sent_dibit}}
use Rattle.p25_soft.proofs.DeviationLaws.{square-sum}
use Rattle.p25_decide.specs.LevelCosts.{level_cost, level_costs, word_level_costs, field_costs}

capped-le : (n : ℕ) → min n 96 ≤ 96
capped-le n = omega arith

-- a cost is at most the square of 96
pub level_cost-le : (level : ℤ) (dibit : ℕ) → level_cost level dibit ≤ 9216
unfolding level_cost
level_cost-le level dibit = let few = capped-le (unsigned_abs (level -ℤ nominal_level dibit)) in mul-le-mul few few

level_costs-low : (level : ℤ) → All (λ cost. cost ≤ 2 ^ 16) (level_costs level)
unfolding level_costs
level_costs-low level =
    let P : ℕ → Type 0 = λ cost. cost ≤ 2 ^ 16 in
    let few : (dibit : ℕ) → P (level_cost level dibit) = λ dibit. omega (arith, level_cost-le level dibit) in
    let cost = level_cost level in
    All-cons P (cost 0) (cost 1 ∷ cost 2 ∷ cost 3 ∷ []) (few 0)
    (All-cons P (cost 1) (cost 2 ∷ cost 3 ∷ []) (few 1) (All-cons P (cost 2) (cost 3 ∷ []) (few 2) (All-cons P (cost 3) [] (few 3) (All-nil P))))

pub level_costs-from : (level : ℤ) (a b c d : ℕ) → a ≡ level_cost level 0 → b ≡ level_cost level 1 → c ≡ level_cost level 2 → d ≡ level_cost level 3
    → a ∷ b ∷ c ∷ d ∷ [] ≡ level_costs level
unfolding level_costs
level_costs-from level a b c d of_00 of_01 of_10 of_11 = rw (of_00, of_01, of_10, of_11) refl

pub length-level_costs : (level : ℤ) → length (level_costs level) ≡ 4
unfolding level_costs
length-level_costs level = refl

pub word_level_costs-low : (levels : List ℤ) (first count : ℕ) → All (λ cost. cost ≤ 2 ^ 16) (word_level_costs levels first count)
unfolding word_level_costs
word_level_costs-low levels first count = All-joined_below (λ cost. cost ≤ 2 ^ 16) count _ (λ i less. level_costs-low _)

pub length-word_level_costs : (levels : List ℤ) (first count : ℕ) → length (word_level_costs levels first count) ≡ 4 * count
unfolding word_level_costs
length-word_level_costs levels first count = length-joined_below 4 count _ (λ i less. length-level_costs _)

pub field_costs-low : (size : ℕ) (places : List ℕ) (levels : List ℤ) → All (λ cost. cost ≤ 2 ^ 16) (field_costs size places levels)
unfolding field_costs
field_costs-low size places levels = All-joined_below (λ cost. cost ≤ 2 ^ 16) (length places) _ (λ i less. word_level_costs-low levels _ _)

-- the distance by way of a third level
apart-capped : (a b level : ℤ) → min (unsigned_abs (b -ℤ a)) 96 ≤ min (unsigned_abs (level -ℤ a)) 96 + min (unsigned_abs (level -ℤ b)) 96
apart-capped a b level = grind (arith, ints)

below_four : (P : ℕ → Type 0) → P 0 → P 1 → P 2 → P 3 → (n : ℕ) → n < 4 → P n
below_four P a b c d zero less = a
below_four P a b c d (suc zero) less = b
below_four P a b c d (suc (suc zero)) less = c
below_four P a b c d (suc (suc (suc zero))) less = d
below_four P a b c d (suc (suc (suc (suc n)))) less = absurd (omega arith)

-- the square of how far the soft symbols of two dibits are apart
apart_of : ℕ → ℕ → ℕ
apart_of s t = let apart = min (unsigned_abs (nominal_level t -ℤ nominal_level s)) 96 in apart * apart

-- dibits that differ in bits have soft symbols that are far apart
far_test : (s : ℕ) → s < 4 → (t : ℕ) → t < 4 → leb (4096 * distance_of (bits_of 2 s) (bits_of 2 t)) (apart_of s t) ≡ true
unfolding apart_of nominal_level bits_of distance_by
far_test =
    below_four (λ s. (t : ℕ) → t < 4 → leb (4096 * distance_of (bits_of 2 s) (bits_of 2 t)) (apart_of s t) ≡ true)
    (below_four (λ t. leb (4096 * distance_of (bits_of 2 0) (bits_of 2 t)) (apart_of 0 t) ≡ true) refl refl refl refl)
    (below_four (λ t. leb (4096 * distance_of (bits_of 2 1) (bits_of 2 t)) (apart_of 1 t) ≡ true) refl refl refl refl)
    (below_four (λ t. leb (4096 * distance_of (bits_of 2 2) (bits_of 2 t)) (apart_of 2 t) ≡ true) refl refl refl refl)
    (below_four (λ t. leb (4096 * distance_of (bits_of 2 3) (bits_of 2 t)) (apart_of 3 t) ≡ true) refl refl refl refl)

-- two dibits cost together at least 2,048 for each bit in which they differ
pub level_cost-apart : (level : ℤ) (s t : ℕ) → s < 4 → t < 4 → 2048 * distance_of (bits_of 2 s) (bits_of 2 t) ≤ level_cost level s + level_cost level t
unfolding level_cost apart_of
level_cost-apart level s t first second =
    let far : 4096 * distance_of (bits_of 2 s) (bits_of 2 t) ≤ apart_of s t = leb-true (4096 * distance_of (bits_of 2 s) (bits_of 2 t)) (apart_of s t) (far_test s first t second) in
    let sum = square-sum (min (unsigned_abs (nominal_level t -ℤ nominal_level s)) 96) (min (unsigned_abs (level -ℤ nominal_level s)) 96) (min (unsigned_abs (level -ℤ nominal_level t)) 96)
    (apart-capped (nominal_level s) (nominal_level t) level) in
    omega (arith, far, sum)

get_or-level_costs : (level : ℤ) (s : ℕ) → s < 4 → get_or (level_costs level) s 0 ≡ level_cost level s
unfolding level_costs
get_or-level_costs level = below_four (λ s. get_or (level_costs level) s 0 ≡ level_cost level s) refl refl refl refl

-- the cost of a dibit in a list of costs
pub get_or-word_level_costs : (levels : List ℤ) (first count i s : ℕ) → i < count → s < 4
    → get_or (word_level_costs levels first count) (4 * i + s) 0 ≡ level_cost (slice_index_or levels (sent_dibit (first + i)) (pos 0)) s
unfolding word_level_costs
get_or-word_level_costs levels first count i s inside small =
    let costs : ℕ → List ℕ = λ j. level_costs (slice_index_or levels (sent_dibit (first + j)) (pos 0)) in
    sym (get_or-part (4 * i) 4 s (joined_below count costs) 0 small)
    ∙ ap (λ xs. get_or xs s 0) (part-joined_below 4 count costs i (λ j less. length-level_costs _) inside)
    ∙ get_or-level_costs _ s small

-- the costs of soft symbols separate dibits by a margin of 1,024
pub word_level_costs-spread : (levels : List ℤ) (first count : ℕ) → IsSpread 1024 count (word_level_costs levels first count)
word_level_costs-spread levels first count = record {
  apart = λ i s t inside small less.
      let level = slice_index_or levels (sent_dibit (first + i)) (pos 0) in
      omega (arith, level_cost-apart level s t small less, get_or-word_level_costs levels first count i s inside small, get_or-word_level_costs levels first count i t inside less);
}
