-- Errors at listed positions: their power sums, and their number, by sums over the positions and by induction.
use Rattle.std.proofs.Common.{◌≡◌, ◌≢◌, ℕ, zero, suc, ◌+◌, ◌<◌, ◌≤◌, cond, eqb, List, length, get_or, set, inl, inr, refl, ap, sym, ◌∙◌, arith}
use Rattle.std.proofs.{lemmas.Bool.{cases_eq, cases_order, cond-true, cond-false, eq-eqb, ne_eqb}, lemmas.List.{length-set, get_or-set_same, get_or-set_other}}
use Rattle.p25_gf64.specs.{declared.symbol.Sym.{Sym}, Field.{power}, Gf64.{gf64}}
use Rattle.p25_gf64.proofs.FieldLaws.{add_zero, mul_comm, zero_mul}
use Rattle.p25_algebra.specs.{Sums.{sum_below, power_sum, nonzeros, weight_by}, Series.{coefficient}}
use Rattle.p25_algebra.proofs.{SumLaws.{sum-none, sum-suc, sum_same, sum_of_zeros, sum_of_one, sum_exchange, sum-mul}, VanishingLaws.{nonzeros-suc, nonzeros_mono, weight-le}}
use Rattle.p25_reed_solomon.specs.Errors.{element_of, IsListed, placed}

-- one value at its position
abbrev pub at_place : List ℕ → (ℕ → Sym) → ℕ → ℕ → Sym
at_place places values j c = cond (eqb (get_or places c 0) j) (values c) gf64.zero

there : (places : List ℕ) (values : ℕ → Sym) (j c : ℕ) → get_or places c 0 ≡ j → at_place places values j c ≡ values c
there places values j c same = cond-true _ (values c) gf64.zero (eq-eqb (get_or places c 0) j same)

pub elsewhere : (places : List ℕ) (values : ℕ → Sym) (j c : ℕ) → (get_or places c 0 ≡ j → ⊥) → at_place places values j c ≡ gf64.zero
elsewhere places values j c other = cond-false _ (values c) gf64.zero (ne_eqb (get_or places c 0) j other)

-- the power sums of values at their positions are those over the positions alone
pub power_sum-placed : (n : ℕ) (places : List ℕ) (values : ℕ → Sym) (i : ℕ) → ((c : ℕ) → c < length places → get_or places c 0 < n)
    → power_sum gf64 n (element_of n) (placed places values) i ≡ power_sum gf64 (length places) (λ c. element_of n (get_or places c 0)) values i
power_sum-placed n places values i inside =
    let x : ℕ → Sym = λ j. power gf64 _ i in
    sum_same gf64 n _ _
    (λ j below. mul_comm gf64 (placed places values j) _ ∙ sym (sum-mul gf64 (length places) (x j) (at_place places values j)))
    ∙ sum_exchange gf64 n (length places) _
    ∙ sum_same gf64 (length places) _ _ (λ c within.
    sum_of_one gf64 n (get_or places c 0) _
    (inside c within) (λ j below other. cc (elsewhere places values j c (λ e. other (sym e)), mul_comm gf64 (x j) gf64.zero, zero_mul gf64 (x j)))
    ∙ mul_comm gf64 _ _
    ∙ ap (λ s. gf64.mul s (x (get_or places c 0))) (there places values (get_or places c 0) c refl))

-- errors that are zero except at listed positions are those of the list
pub placed-errors : (n : ℕ) (places : List ℕ) (errors : ℕ → Sym) (j : ℕ) → ((c d : ℕ) → c < d → d < length places → get_or places c 0 < get_or places d 0) → (errors j ≢ gf64.zero → IsListed places j)
    → placed places (λ c. errors (get_or places c 0)) j ≡ errors j
placed-errors n places errors j rising listed =
    let values : ℕ → Sym = λ c. errors (get_or places c 0) in
    elim (gf64.is_zero (errors j)) [
      | inl none ↦
          sum_of_zeros gf64 (length places) (at_place places values j) (λ c within. elim (cases_eq (get_or places c 0) j) [
            | inl here ↦ there places values j c here ∙ ap errors here ∙ none
            | inr other ↦ elsewhere places values j c other
          ])
          ∙ sym none
      | inr some ↦
          let l = listed some in
          sum_of_one gf64 (length places) l.index (at_place places values j) l.inside (λ c within other. elsewhere places values j c (λ same. elim (cases_order c l.index) [
            | inl equal ↦ other equal
            | inr unequal ↦ elim unequal [
              | inl less ↦ omega (arith, rising c, same, l.there)
              | inr more ↦ omega (arith, rising l.index, same, l.there)
            ]
          ]))
          ∙ there places values j l.index l.there
          ∙ ap errors l.there
    ]

-- a change at one position changes the number of values that are not zero by at most one
nonzeros_bump : (n q : ℕ) (f g : ℕ → Sym) → ((j : ℕ) → (j ≡ q → ⊥) → g j ≡ f j) → nonzeros gf64 n g ≤ nonzeros gf64 n f + 1
unfolding nonzeros
nonzeros_bump zero q f g same = omega arith
nonzeros_bump (suc n) q f g same =
    elim (cases_eq n q) [
      | inl here ↦
          omega (arith, nonzeros_mono gf64 n g f (λ i h none. same i (λ e. omega (arith, h, here, e)) ∙ none), weight-le)
      | inr other ↦
          omega (arith, nonzeros_bump n q f g same, ap (λ s. weight_by (gf64.is_zero s)) (same n other))
    ]

pub zeros_count : (n : ℕ) (f : ℕ → Sym) → ((j : ℕ) → f j ≡ gf64.zero) → nonzeros gf64 n f ≤ 0
unfolding nonzeros
zeros_count zero f none = omega arith
zeros_count (suc n) f none = omega (arith, zeros_count n, elim (gf64.is_zero (f n)) as (λ w. weight_by w ≡ 0) [ inl same ↦ refl | inr other ↦ absurd (other (none n)) ])

-- at most as many positions are not zero as are listed
nonzeros-placed_front : (n : ℕ) (places : List ℕ) (values : ℕ → Sym) (count : ℕ) → nonzeros gf64 n (λ j. sum_below gf64 count (at_place places values j)) ≤ count
nonzeros-placed_front n places values zero = zeros_count n _ (λ j. sum-none gf64 _)
nonzeros-placed_front n places values (suc count) =
    omega (
      arith,
      nonzeros-placed_front n places values count,
      nonzeros_bump n (get_or places count 0) (λ j. sum_below gf64 count (at_place places values j))
          _ (λ j other. sum-suc gf64 count (at_place places values j)
          ∙ ap (gf64.add (sum_below gf64 count (at_place places values j))) (elsewhere places values j count (λ e. other (sym e))) ∙ add_zero gf64 _),
    )

pub nonzeros-placed : (n : ℕ) (places : List ℕ) (values : ℕ → Sym) → nonzeros gf64 n (placed places values) ≤ length places
nonzeros-placed n places values = nonzeros-placed_front n places values (length places)

-- equal errors are as many
pub nonzeros_same : (n : ℕ) (f g : ℕ → Sym) → ((j : ℕ) → j < n → f j ≡ g j) → nonzeros gf64 n f ≡ nonzeros gf64 n g
unfolding nonzeros
nonzeros_same zero f g same = refl
nonzeros_same (suc n) f g same =
    cc (nonzeros_same n f g (λ j h. same j (omega arith)), same n (omega arith))

-- one more value is added at its position
pub placed_more : (places : List ℕ) (values : ℕ → Sym) (out : List Sym) (c : ℕ) (x : Sym) → get_or places c 0 < length out → x ≡ gf64.add (coefficient gf64 out (get_or places c 0)) (values c)
    → ((j : ℕ) → j < length out → coefficient gf64 out j ≡ sum_below gf64 c (at_place places values j)) → (j : ℕ) → j < length (set out (get_or places c 0) x)
    → coefficient gf64 (set out (get_or places c 0) x) j ≡ sum_below gf64 (c + 1) (at_place places values j)
placed_more places values out c x inside is before j within =
    let p = get_or places c 0 in
    let next : suc c ≡ c + 1 = omega arith in
    let below : j < length out = omega (arith, length-set out) in
    let more = sym (sum-suc gf64 c (at_place places values j)) ∙ ap (λ n. sum_below gf64 n (at_place places values j)) next in
    elim (cases_eq j p) [
      | inl here ↦
          cc (here, get_or-set_same out p x gf64.zero inside, is, before j below, there places values j c (sym here), more)
      | inr other ↦
          cc (get_or-set_other out p j x gf64.zero other, before j below, add_zero gf64 (sum_below gf64 c (at_place places values j)), elsewhere places values j c (λ e. other (sym e)), more)
    ]

-- before the first value is added there is none at any position
pub placed_none : (places : List ℕ) (values : ℕ → Sym) (j : ℕ) → gf64.zero ≡ sum_below gf64 0 (at_place places values j)
placed_none places values j = sym (sum-none gf64 (at_place places values j))

-- no factors, none that are not zero
pub nonzeros-none : (f : ℕ → Sym) → nonzeros gf64 0 f ≡ 0
unfolding nonzeros
nonzeros-none f = refl

-- one more factor that is not zero counts
pub nonzeros_some : (n : ℕ) (f : ℕ → Sym) → f n ≢ gf64.zero → nonzeros gf64 (n + 1) f ≡ nonzeros gf64 n f + 1
nonzeros_some n f some =
    ap (λ m. nonzeros gf64 m f) (omega arith) ∙ nonzeros-suc gf64 n f
    ∙ ap (λ w. nonzeros gf64 n f + w) (elim (gf64.is_zero (f n)) as (λ w. weight_by w ≡ 1) [ inl none ↦ absurd (some none) | inr other ↦ refl ])

-- one more that is zero doesn't
pub nonzeros_skip : (n : ℕ) (f : ℕ → Sym) → f n ≡ gf64.zero → nonzeros gf64 (n + 1) f ≡ nonzeros gf64 n f
nonzeros_skip n f none =
    ap (λ m. nonzeros gf64 m f) (omega arith) ∙ nonzeros-suc gf64 n f
    ∙ omega (arith, elim (gf64.is_zero (f n)) as (λ w. weight_by w ≡ 0) [ inl same ↦ refl | inr other ↦ absurd (other none) ])
