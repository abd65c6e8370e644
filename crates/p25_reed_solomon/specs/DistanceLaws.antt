-- Distances of words by their symbols.
use Rattle.std.specs.Prelude.{◌≡◌, ℕ, zero, suc, ◌+◌, true, if◌then◌else◌, List, [], ◌∷◌, length, refl}
use Rattle.std.proofs.{Common.{ap, ap₂, sym, ◌∙◌, inl, inr, arith}, lemmas.Bool.{cond-true, cond-false, eq-eqb, false_from_ne_true}}
use Rattle.p25_bits.specs.Distance.{distance_by}
use Rattle.p25_gf64.specs.{declared.symbol.Sym.{Sym}, Symbol.{number}, Gf64.{gf64}}
use Rattle.p25_gf64.proofs.{FieldLaws.{add_self, same_from_sum}, SymbolLaws.{same_from_eq}}
use Rattle.p25_algebra.specs.{Sums.{nonzeros, weight_by}, Series.{coefficient}}
use Rattle.p25_reed_solomon.specs.Words.{same_symbols}

-- the first factor separately
pub nonzeros_first : (n : ℕ) (f : ℕ → Sym) → nonzeros gf64 (suc n) f ≡ weight_by (gf64.is_zero (f 0)) + nonzeros gf64 n (λ i. f (suc i))
unfolding nonzeros
nonzeros_first zero f = omega arith
nonzeros_first (suc n) f = omega (arith, nonzeros_first n f)

-- two symbols differ if and only if their sum is not zero
pub weight_of_sum : (x y : Sym) → (if same_symbols x y then 0 else 1) ≡ weight_by (gf64.is_zero (gf64.add x y))
weight_of_sum x y =
    elim (gf64.is_zero (gf64.add x y)) as (λ w. (if same_symbols x y then 0 else 1) ≡ weight_by w) [
      | inl none ↦ cond-true (same_symbols x y) 0 1 (eq-eqb (number x) (number y) (ap number (same_from_sum gf64 x y none)))
      | inr other ↦ cond-false (same_symbols x y) 0 1 (false_from_ne_true (same_symbols x y) (λ test. other (none test)))
    ]
  where
    none : same_symbols x y ≡ true → gf64.add x y ≡ gf64.zero
    none test = ap (λ s. gf64.add s y) (same_from_eq x y test) ∙ add_self gf64 y

-- the distance of two words is the number of positions at which their sum is not zero
pub distance-nonzeros : (xs ys : List Sym) → length xs ≡ length ys
    → distance_by same_symbols xs ys ≡ nonzeros gf64 (length xs) (λ j. gf64.add (coefficient gf64 xs j) (coefficient gf64 ys j))
unfolding distance_by nonzeros
distance-nonzeros [] ys long = refl
distance-nonzeros (x ∷ xs) [] long = absurd (omega arith)
distance-nonzeros (x ∷ xs) (y ∷ ys) long =
    ap₂ ◌+◌ (weight_of_sum x y) (distance-nonzeros xs ys (omega arith))
    ∙ sym (nonzeros_first (length xs) (λ j. gf64.add (coefficient gf64 (x ∷ xs) j) (coefficient gf64 (y ∷ ys) j)))

-- a symbol equals itself
pub same_symbols-same : (x : Sym) → same_symbols x x ≡ true
same_symbols-same x = eq-eqb (number x) (number x) refl
