-- The cost of a codeword for a list with erasures, by the errors between the received word and the codeword: by induction on both lists.
use Rattle.std.proofs.Common.{◌≡◌, ℕ, zero, suc, ◌+◌, ◌*◌, Bool, true, false, cond, List, [], ◌∷◌, length, Some, None, refl, sym, arith}
use Rattle.p25_gf64.specs.{declared.symbol.Sym.{Sym}, Gf64.{gf64}}
use Rattle.p25_algebra.specs.{Sums.{nonzeros, weight_by}, Series.{coefficient}}
use Rattle.p25_algebra.proofs.VanishingLaws.{weight_zero}
use Rattle.p25_code.specs.Erasures.{without_erased, erasures_in, letter_distance, kept_distance, erased_cost}
use Rattle.p25_reed_solomon.specs.{Words.{same_symbols}, Errors.{erased_below, kept_errors}, DistanceLaws.{nonzeros_first, weight_of_sum}}

-- the first position separately
erased_below-first : (gone : Bool) (erased : List Bool) (n : ℕ) → erased_below (gone ∷ erased) (suc n) ≡ cond gone 1 0 + erased_below erased n
unfolding erased_below
erased_below-first gone erased zero = omega arith
erased_below-first gone erased (suc n) = omega (arith, erased_below-first gone erased n)

-- the erasures of a list are the erased positions
pub erasures_in-without_erased : (received : List Sym) (erased : List Bool) → length erased ≡ length received → erasures_in (without_erased received erased) ≡ erased_below erased (length received)
unfolding erasures_in without_erased erased_below
erasures_in-without_erased [] erased long = refl
erasures_in-without_erased (x ∷ received) [] long = absurd (omega arith)
erasures_in-without_erased (x ∷ received) (true ∷ erased) long = omega (arith, erasures_in-without_erased received, erased_below-first true)
erasures_in-without_erased (x ∷ received) (false ∷ erased) long = omega (arith, erasures_in-without_erased received, erased_below-first false)

-- the part of a position in the distance
place_distance : (gone : Bool) (x y : Sym) → letter_distance same_symbols (cond gone None (Some x)) y ≡ weight_by (gf64.is_zero (cond gone gf64.zero (gf64.add x y)))
place_distance true x y = sym (weight_zero gf64 gf64.zero refl)
place_distance false x y = weight_of_sum x y

-- the positions without an erasure that differ are those of errors
pub kept_distance-nonzeros : (received word : List Sym) (erased : List Bool) → length received ≡ length word → length erased ≡ length received
    → kept_distance same_symbols (without_erased received erased) word ≡ nonzeros gf64 (length received) (kept_errors erased (λ j. gf64.add (coefficient gf64 received j) (coefficient gf64 word j)))
unfolding kept_distance without_erased nonzeros
kept_distance-nonzeros [] word erased long erasures = refl
kept_distance-nonzeros (x ∷ received) (y ∷ word) (gone ∷ erased) long erasures =
    cc (
      place_distance gone x y,
      kept_distance-nonzeros received word erased (omega arith) (omega arith),
      nonzeros_first _ _,
    )
kept_distance-nonzeros (x ∷ received) word erased long erasures = absurd (omega arith)

-- so the cost is that of the errors
pub cost-errors : (received word : List Sym) (erased : List Bool) → length received ≡ length word → length erased ≡ length received
    → erased_cost same_symbols (without_erased received erased) word ≡ 2 * nonzeros gf64
    (length received) (kept_errors erased (λ j. gf64.add (coefficient gf64 received j) (coefficient gf64 word j))) + erased_below erased (length received)
unfolding erased_cost
cost-errors received word erased long erasures = omega (arith, kept_distance-nonzeros, erasures_in-without_erased)
