-- The lowest number of least value, by induction on the bound, and the least value of the other numbers. Each of them is unique.
use Rattle.std.proofs.{Common.{◌≡◌, ◌≢◌, ℕ, zero, suc, ◌+◌, ◌-◌, ◌<◌, ◌≤◌, inl, inr, if◌then◌else◌, nat_lt, refl, ap, sym, subst, ◌∙◌, arith, below_more, add-one}, lemmas.Bool.{cases_lt, cond-true, cond-false, lt-ltb, le-ltb}}
use Rattle.p25_bits.specs.Least.{lowest_least, IsLowestLeast, numbers_beside, least_beside, IsLeastBeside}

-- the first number is the lowest least of one
pub IsLowestLeast-one : (value : ℕ → ℕ) (least : ℕ) → least ≡ value 0 → IsLowestLeast 1 value 0 least
IsLowestLeast-one value least is = record {
  below = omega arith;
  is = sym is;
  none_less = λ other below. first other below;
  lowest = λ other below. absurd (omega arith);
}
  where
    first : (other : ℕ) → other < 1 → least ≤ value other
    first zero below = omega arith
    first (suc other) below = absurd (omega arith)

-- a number whose value is less than those of all before it is the lowest least with it
pub IsLowestLeast-less : (bound : ℕ) (value : ℕ → ℕ) (number least new : ℕ)
    → IsLowestLeast bound value number least → new ≡ value bound → new < least → IsLowestLeast (bound + 1) value bound new
IsLowestLeast-less bound value number least new was is less = record {
  below = omega arith;
  is = sym is;
  none_less = below_more (λ k. new ≤ value k) bound (λ k below. omega (arith, was.none_less k below)) (omega arith);
  lowest = λ other below. omega (arith, was.none_less other below);
}

-- and else the lowest least stays
pub IsLowestLeast-kept : (bound : ℕ) (value : ℕ → ℕ) (number least new : ℕ)
    → IsLowestLeast bound value number least → new ≡ value bound → least ≤ new → IsLowestLeast (bound + 1) value number least
IsLowestLeast-kept bound value number least new was is more = record {
  below = omega (arith, was.below);
  is = was.is;
  none_less = below_more (λ k. least ≤ value k) bound was.none_less (omega arith);
  lowest = was.lowest;
}

-- with one number more, that number is the lowest least if its value is less
pub IsLowestLeast-more : (bound : ℕ) (value : ℕ → ℕ) (number : ℕ) → IsLowestLeast bound value number (value number)
    → let next = if nat_lt (value bound) (value number) then bound else number in IsLowestLeast (suc bound) value next (value next)
IsLowestLeast-more bound value number was =
    elim (cases_lt (value bound) (value number)) [
      | inl less ↦
          rw (cond-true _ bound number (lt-ltb (value bound) (value number) less)) (rw (add-one bound) at (IsLowestLeast-less bound value number (value number) (value bound) was refl less))
      | inr more ↦
          rw (cond-false _ bound number (le-ltb (value bound) (value number) more)) (rw (add-one bound) at (IsLowestLeast-kept bound value number (value number) (value bound) was refl more))
    ]

-- the function gives the lowest least
pub IsLowestLeast-lowest_least : (bound : ℕ) (value : ℕ → ℕ) → 0 < bound → IsLowestLeast bound value (lowest_least bound value) (value (lowest_least bound value))
unfolding lowest_least
IsLowestLeast-lowest_least zero value some = absurd (omega arith)
IsLowestLeast-lowest_least (suc zero) value some =
    subst (λ next. IsLowestLeast 1 value next (value next)) (sym (cond-false _ 0 0 (le-ltb (value 0) (value 0) (omega arith)))) (IsLowestLeast-one value (value 0) refl)
IsLowestLeast-lowest_least (suc (suc n)) value some = IsLowestLeast-more _ value (lowest_least (suc n) value) (IsLowestLeast-lowest_least (suc n) value (omega arith))

-- there is one lowest least
pub one_lowest_least : (bound : ℕ) (value : ℕ → ℕ) (a b least other : ℕ) → IsLowestLeast bound value a least → IsLowestLeast bound value b other → a ≡ b
one_lowest_least bound value a b least other first second =
    elim (cases_lt a b) [
      | inl less ↦ absurd (omega (arith, second.lowest a less, first.none_less, first.is, second.is))
      | inr not_less ↦ elim (cases_lt b a) [
        | inl less ↦ absurd (omega (arith, first.lowest b less, second.none_less, first.is, second.is))
        | inr same ↦ omega arith
      ]
    ]

-- so a lowest least is that of the function
pub lowest_least-is : (bound : ℕ) (value : ℕ → ℕ) (number least : ℕ) → IsLowestLeast bound value number least → number ≡ lowest_least bound value
lowest_least-is bound value number least is =
    one_lowest_least bound value number (lowest_least bound value) least (value (lowest_least bound value)) is (IsLowestLeast-lowest_least bound value (omega (arith, is.below)))

-- a number is the lowest least if the values of all others are greater
pub lowest_least-alone : (bound : ℕ) (value : ℕ → ℕ) (number : ℕ) → number < bound → ((j : ℕ) → j < bound → j ≢ number → value number < value j)
    → number ≡ lowest_least bound value
lowest_least-alone bound value number below more =
    lowest_least-is bound value number (value number) (record {
      below = below;
      is = refl;
      none_less = λ j inside. elim (cases_lt j number) [
        | inl less ↦ omega (arith, more)
        | inr not_less ↦ elim (cases_lt number j) [
          | inl greater ↦ omega (arith, more)
          | inr same ↦ let e : j ≡ number = omega arith in omega (arith, ap value e)
        ]
      ];
      lowest = λ j less. more j (omega arith) (omega arith);
    })

-- among the numbers beside another, a smaller number is at its own index, and a larger one at the index before
numbers_beside-below : (one j : ℕ) → j < one → numbers_beside one j ≡ j
unfolding numbers_beside
numbers_beside-below one j less = cond-true (nat_lt j one) j _ (lt-ltb j one less)

numbers_beside-above : (one j : ℕ) → one ≤ j → numbers_beside one j ≡ suc j
unfolding numbers_beside
numbers_beside-above one j more = cond-false (nat_lt j one) j _ (le-ltb j one more)

-- so none of them is that one, and each is below the bound
beside-other : (one j : ℕ) → numbers_beside one j ≢ one
beside-other one j = elim (cases_lt j one) [
  | inl less ↦ λ e. absurd (omega (arith, numbers_beside-below one j less, e))
  | inr more ↦ λ e. absurd (omega (arith, numbers_beside-above one j more, e))
]

beside-lt : (bound one j : ℕ) → j < bound - 1 → numbers_beside one j < bound
beside-lt bound one j inside = elim (cases_lt j one) [
  | inl less ↦ omega (arith, numbers_beside-below one j less)
  | inr more ↦ omega (arith, numbers_beside-above one j more)
]

-- a value that is the least beside a number is that of the function
pub least_beside-is : (bound : ℕ) (value : ℕ → ℕ) (one least : ℕ) → one < bound → IsLeastBeside bound value one least → least ≡ least_beside bound value one
unfolding least_beside
least_beside-is bound value one least inside is =
    let others : ℕ → ℕ = λ j. value (numbers_beside one j) in
    let lowest = IsLowestLeast-lowest_least (bound - 1) others (some_other is.number is.below is.other) in
    let x = lowest_least (bound - 1) others in
    let up = is.none_less (numbers_beside one x) (beside-lt bound one x lowest.below) (beside-other one x) in
    let down = at_most x lowest.none_less in
    omega arith
  where
    some_other : (number : ℕ) → number < bound → number ≢ one → 0 < bound - 1
    some_other number below ne = elim (cases_lt 1 bound) [ inl more ↦ omega arith | inr few ↦ absurd (ne (omega arith)) ]

    at_most : (x : ℕ) → ((j : ℕ) → j < bound - 1 → value (numbers_beside one x) ≤ value (numbers_beside one j)) → value (numbers_beside one x) ≤ least
    at_most x none_less = elim (cases_lt is.number one) [
      | inl less ↦
          omega (arith, none_less is.number (omega (arith, is.below)), ap value (numbers_beside-below one is.number less), is.is)
      | inr not_less ↦ elim (cases_lt one is.number) [
        | inl more ↦
            let before : one ≤ is.number - 1 = omega arith in
            let next : suc (is.number - 1) ≡ is.number = omega arith in
            omega (arith, none_less (is.number - 1) (omega (arith, is.below)), ap value (numbers_beside-above one (is.number - 1) before ∙ next), is.is)
        | inr not_more ↦ absurd (is.other (omega arith))
      ]
    ]
