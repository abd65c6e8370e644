-- The errors of a locator. Any errors that explain the syndromes are at its zeros and have the values of Forney's formula there. Values at its zeros
-- with the right power sums explain the syndromes, because each erasure is one of few zeros.
use Rattle.std.proofs.Common.{◌≡◌, ◌≢◌, ℕ, zero, suc, ◌+◌, ◌*◌, ◌<◌, ◌≤◌, Bool, cond, List, length, take, get_or, inl, inr, ap, sym, ◌∙◌, arith}
use Rattle.std.proofs.{lemmas.Bool.{cases_eq, cases_lt, cases_Bool, cond-true, cond-false}, lemmas.List.{get_or-take, length-take}}
use Rattle.p25_gf64.specs.{declared.symbol.Sym.{Sym}, Field.{power}, Gf64.{gf64}}
use Rattle.p25_gf64.proofs.FieldLaws.{add_zero, mul_comm, mul_cancel}
use Rattle.p25_algebra.specs.{Sums.{sum_below, power_sum, nonzeros, weight_by}, Series.{coefficient, value_at, slope_at}}
use Rattle.p25_algebra.proofs.{SumLaws.{sum-none, sum-suc, sum_same}, VanishingLaws.{nonzeros-suc, weight_zero, weight_one}, ValueLaws.{value_same}}
use Rattle.p25_poly.proofs.CoefficientLaws.{coefficient_past}
use Rattle.p25_reed_solomon.specs.{Errors.{element_of, point_of, is_erased, erased_below, kept_errors, Explains, IsListed, AreZeros, placed}, Locator.{IsLocator}}
use Rattle.p25_reed_solomon.proofs.{ErasuresLaws.{erased_below-none, erased_below-gone, erased_below-kept}, LocatorLaws.{same_function}}
use Rattle.p25_reed_solomon.proofs.ErrorsLaws.{at_place, elsewhere, power_sum-placed, placed-errors, nonzeros-placed, nonzeros_same, nonzeros-none}

-- the parts of the lists that have the coefficients are a locator and its evaluator too
pub part_is_locator : (n checks : ℕ) (syndromes : List Sym) (erased : List Bool) (most : ℕ) (locator evaluator : List Sym)
    → IsLocator n checks syndromes erased most (coefficient gf64 locator) (coefficient gf64 evaluator)
    → IsLocator n checks syndromes erased most (coefficient gf64 (take (most + 1) locator)) (coefficient gf64 (take most evaluator))
part_is_locator n checks syndromes erased most locator evaluator is =
    rw (same_function _ _ part) (record {
      short = is.short;
      nonzero = is.nonzero;
      gone = is.gone;
      wrong = is.wrong;
      slope = is.slope;
      value = λ errors explains j inside none.
          is.value errors explains j inside none
          ∙ value_same gf64 most _ _ _ (λ k low. sym (get_or-take most evaluator k gf64.zero low));
      found = is.found;
    })
  where
    part : (k : ℕ) → coefficient gf64 (take (most + 1) locator) k ≡ coefficient gf64 locator k
    part k =
        elim (cases_lt k (most + 1)) [
          | inl low ↦ get_or-take (most + 1) locator k gf64.zero low
          | inr high ↦ coefficient_past gf64 _ k (omega (arith, length-take (most + 1) locator)) ∙ sym (is.short.above k high)
        ]

-- if the sum of the values at a position is not zero, the position is listed
listed_front : (places : List ℕ) (values : ℕ → Sym) (j count : ℕ) → count ≤ length places → sum_below gf64 count (at_place places values j) ≢ gf64.zero → IsListed places j
listed_front places values j zero few some = absurd (some (sum-none gf64 (at_place places values j)))
listed_front places values j (suc count) few some =
    elim (cases_eq (get_or places count 0) j) [
      | inl here ↦ record { index = count; inside = omega arith; there = here }
      | inr other ↦
          listed_front places values j count (omega arith)
          (λ none. some (simp (sum-suc, none, elsewhere, add_zero)))
    ]

pub placed_listed : (places : List ℕ) (values : ℕ → Sym) (j : ℕ) → placed places values j ≢ gf64.zero → IsListed places j
placed_listed places values j some = listed_front places values j (length places) (omega arith) some

-- errors that are zero except at listed positions are no more than these
nonzeros_listed : (n : ℕ) (places : List ℕ) (f : ℕ → Sym) → ((c d : ℕ) → c < d → d < length places → get_or places c 0 < get_or places d 0)
    → ((j : ℕ) → j < n → f j ≢ gf64.zero → IsListed places j) → nonzeros gf64 n f ≤ length places
nonzeros_listed n places f rising listed =
    omega (
      arith,
      nonzeros_same n f (placed places _) (λ j low. sym (placed-errors n places f j rising (listed j low))),
      nonzeros-placed n,
    )

-- a one at each erased position
abbrev with_ones : List Bool → (ℕ → Sym) → ℕ → Sym
with_ones erased errors j = cond (is_erased erased j) gf64.one (errors j)

nonzeros-with_ones : (n : ℕ) (erased : List Bool) (errors : ℕ → Sym) → nonzeros gf64 n (with_ones erased errors) ≡ nonzeros gf64 n (kept_errors erased errors) + erased_below erased n
nonzeros-with_ones zero erased errors = omega (arith, nonzeros-none (with_ones erased errors), nonzeros-none (kept_errors erased errors), erased_below-none erased)
nonzeros-with_ones (suc n) erased errors =
    elim (cases_Bool (is_erased erased n)) [
      | inl here ↦
          omega (
            arith,
            nonzeros-with_ones n erased errors,
            nonzeros-suc gf64,
            nonzeros-suc gf64,
            erased_below-gone erased n here,
            weight_one gf64 (with_ones erased errors n) (λ none. gf64.laws.one_ne_zero (sym (cond-true (is_erased erased n) gf64.one (errors n) here) ∙ none)),
            weight_zero gf64 (kept_errors erased errors n) (cond-true (is_erased erased n) gf64.zero (errors n) here),
          )
      | inr kept ↦
          let same : with_ones erased errors n ≡ kept_errors erased errors n
          = simp cond-false in
          omega (
            arith,
            nonzeros-with_ones n erased errors,
            nonzeros-suc gf64,
            nonzeros-suc gf64,
            erased_below-kept erased n kept,
            ap {B = ℕ} (λ s. weight_by (gf64.is_zero s)) same,
          )
    ]

module _ (n checks most : ℕ) (syndromes locator evaluator : List Sym) (erased : List Bool) (places : List ℕ) (long : length locator ≡ most + 1) (high : length evaluator ≡ most)
    (is : IsLocator n checks syndromes erased most (coefficient gf64 locator) (coefficient gf64 evaluator)) (are : AreZeros n locator n places) where
  at : (j : ℕ) → value_at gf64 (most + 1) (coefficient gf64 locator) (point_of n j) ≡ gf64.zero → value_at gf64 (length locator) (coefficient gf64 locator) (point_of n j) ≡ gf64.zero
  at j none = simp (long, none)

  from : (j : ℕ) → value_at gf64 (length locator) (coefficient gf64 locator) (point_of n j) ≡ gf64.zero → value_at gf64 (most + 1) (coefficient gf64 locator) (point_of n j) ≡ gf64.zero
  from j none = cc (long, none)

  -- a position with an error is listed
  pub wrong_is_listed : (errors : ℕ → Sym) → Explains n checks syndromes erased errors → (j : ℕ) → j < n → errors j ≢ gf64.zero → IsListed places j
  wrong_is_listed errors explains j inside other = are.all j inside (at j (is.wrong errors explains j inside other))

  -- the values of errors that explain the syndromes
  pub value_is_error : (errors : ℕ → Sym) → Explains n checks syndromes erased errors → (values : ℕ → Sym)
      → ((c : ℕ) → c < length places → slope_at gf64 (length locator) (coefficient gf64 locator) (point_of n (get_or places c 0)) ≢ gf64.zero
      → gf64.mul (values c) (slope_at gf64 (length locator) (coefficient gf64 locator) (point_of n (get_or places c 0)))
      ≡ value_at gf64 (length evaluator) (coefficient gf64 evaluator) (point_of n (get_or places c 0)))
      → (c : ℕ) → c < length places → values c ≡ errors (get_or places c 0)
  value_is_error errors explains values forney c low =
      let j = get_or places c 0 in
      let here = from j (are.zeros c low) in
      let size = ap (λ m. slope_at gf64 m (coefficient gf64 locator) (point_of n j)) long in
      let live = is.slope errors explains j (are.below c low) here in
      mul_cancel gf64 _ (values c) (errors j) live
      (cc (
        mul_comm gf64 _ (values c),
        size,
        forney c low (λ none. live (sym size ∙ none)),
        high,
        is.value errors explains j (are.below c low) here,
        mul_comm gf64 (errors j) _,
      ))

  -- have the syndromes as their power sums
  pub sums_of_errors : (errors : ℕ → Sym) → Explains n checks syndromes erased errors → (values : ℕ → Sym) → ((c : ℕ) → c < length places → values c ≡ errors (get_or places c 0))
      → (r : ℕ) → r < checks → power_sum gf64 (length places) (λ c. element_of n (get_or places c 0)) values (r + 1) ≡ coefficient gf64 syndromes r
  sums_of_errors errors explains values same r low =
      sum_same gf64 (length places) _ _ (λ c within. rw (same c within))
      ∙ sym (power_sum-placed n places (λ c. errors (get_or places c 0)) (r + 1) are.below)
      ∙ sum_same gf64 n _ _ (λ j within. rw (placed-errors n places errors j are.rising (wrong_is_listed errors explains j within)))
      ∙ explains.sums r low

  -- values at the zeros with these power sums explain the syndromes
  pub placed_explains : (values out : ℕ → Sym) → 2 * most ≤ checks + erased_below erased n → length places < length locator
      → ((r : ℕ) → r < checks → power_sum gf64 (length places) (λ c. element_of n (get_or places c 0)) values (r + 1) ≡ coefficient gf64 syndromes r)
      → ((j : ℕ) → j < n → out j ≡ placed places values j)
      → Explains n checks syndromes erased out
  placed_explains values out bound few sums same = record {
    few = omega (arith, nonzeros-with_ones n erased out, nonzeros_listed n places (with_ones erased out) are.rising listed, long);
    sums = λ r below.
        sum_same gf64 n _ _ (λ j within. ap (λ (s : Sym). gf64.mul s (power gf64 (element_of n j) (r + 1))) (same j within))
        ∙ power_sum-placed n places values (r + 1) are.below
        ∙ sums r below;
  }
    where
      listed : (j : ℕ) → j < n → with_ones erased out j ≢ gf64.zero → IsListed places j
      listed j inside some =
          elim (cases_Bool (is_erased erased j)) [
            | inl here ↦ are.all j inside (at j (is.gone j inside here))
            | inr kept ↦ placed_listed places values j (λ none. some (cond-false (is_erased erased j) gf64.one (out j) kept ∙ same j inside ∙ none))
          ]
