-- Division of polynomials, one coefficient of the quotient at a time, by which the remainder loses its leading coefficient.
use Rattle.std.proofs.{Common.{◌≡◌, ◌≢◌, ℕ, ◌+◌, ◌-◌, ◌<◌, ◌≤◌, List, length, set, sym, ap, ap₂, ◌∙◌, inl, inr, arith}, lemmas.Bool.{cases_eq, cases_lt}, lemmas.List.{length-set}}
use Rattle.p25_gf64.specs.Field.{Field}
use Rattle.p25_gf64.proofs.FieldLaws.{add_zero, zero_add, add_self, add_swap, add_twice, mul_assoc, mul_comm, mul_one, mul_zero, mul_inverse}
use Rattle.p25_algebra.specs.Series.{coefficient, product_at, shifted, IsDegree}
use Rattle.p25_algebra.proofs.ProductLaws.{shifted_from, product_same, product-add, product_monomial, product_zero}
use Rattle.p25_poly.proofs.CoefficientLaws.{coefficient_past, written_at, written_elsewhere}

module _ {F : Type 0} (K : Field F) where
  open K use {zero as 𝟘, one as 𝟙, add as ◌⊕◌, mul as ◌⊗◌, inverse}

  infixl 65 ◌⊕◌
  infixl 70 ◌⊗◌
  -- the quotient has its coefficients from i on, and the remainder none that these have taken
  pub record DividedTo (i : ℕ) (dividend divisor : ℕ → F) (degree : ℕ) (quotient remainder : List F) : Type 0 where
    pub quotient_full : length quotient ≡ 64
    pub remainder_full : length remainder ≡ 64
    pub whole : (k : ℕ) → dividend k ≡ product_at K divisor (coefficient K quotient) k ⊕ coefficient K remainder k
    pub reduced : (k : ℕ) → i + degree ≤ k → coefficient K remainder k ≡ 𝟘
    pub below : (k : ℕ) → k < i → coefficient K quotient k ≡ 𝟘

  -- at first the remainder is the dividend
  pub divided_none : (i : ℕ) (divisor : ℕ → F) (degree : ℕ) (quotient remainder : List F) → i + degree ≡ 64 → length quotient ≡ 64 → length remainder ≡ 64 → ((k : ℕ) → coefficient K quotient k ≡ 𝟘)
      → DividedTo i (coefficient K remainder) divisor degree quotient remainder
  divided_none i divisor degree quotient remainder all full_q full_r blank = record {
    quotient_full = full_q;
    remainder_full = full_r;
    whole = λ k. sym (ap (λ w. w ⊕ coefficient K remainder k) (product_zero K divisor (coefficient K quotient) k (λ i j e. inr (blank j))) ∙ zero_add K (coefficient K remainder k));
    reduced = λ k h. coefficient_past K remainder k (omega arith);
    below = λ k h. blank k;
  }

  -- the coefficient of x^s, by which the remainder loses its leading coefficient
  module _ (i s : ℕ) (next : i ≡ s + 1) (dividend divisor : ℕ
      → F) (degree : ℕ) (quotient remainder after : List F) (factor : F) (fits : s + degree < 64) (top : IsDegree K divisor degree) (full : length after ≡ length remainder)
      (is_factor : factor ≡ coefficient K remainder (s + degree) ⊗ inverse (divisor degree)) (added : (k : ℕ) → k < length remainder
      → coefficient K after k ≡ coefficient K remainder k ⊕ factor ⊗ shifted K s divisor k) (before : DividedTo i dividend divisor degree quotient remainder) where
    past_degree : (k : ℕ) → s + degree < k → factor ⊗ shifted K s divisor k ≡ 𝟘
    past_degree k h = ap (λ w. factor ⊗ w) (shifted_from K s divisor k (omega arith) ∙ top.above (k - s) (omega arith)) ∙ mul_zero K factor

    added_everywhere : (k : ℕ) → coefficient K after k ≡ coefficient K remainder k ⊕ factor ⊗ shifted K s divisor k
    added_everywhere k =
        elim (cases_lt k 64) [
          | inl low ↦ added k (omega (arith, before.remainder_full))
          | inr high ↦
              coefficient_past K after k (omega (arith, before.remainder_full))
              ∙ sym (ap₂ ◌⊕◌ (coefficient_past K remainder k (omega (arith, before.remainder_full))) (past_degree k (omega arith)) ∙ add_zero K 𝟘)
        ]

    -- the coefficients that the quotient gains
    abbrev gained : ℕ → F
    gained k = coefficient K quotient k ⊕ coefficient K (set quotient s factor) k

    gained_at : gained s ≡ factor
    gained_at =
        ap₂ ◌⊕◌ (before.below s (omega arith)) (written_at K quotient s factor (omega (arith, before.quotient_full))) ∙ zero_add K factor

    gained_elsewhere : (k : ℕ) → k ≢ s → gained k ≡ 𝟘
    gained_elsewhere k apart =
        ap (λ w. coefficient K quotient k ⊕ w) (written_elsewhere K quotient s k factor apart) ∙ add_self K (coefficient K quotient k)

    product_after : (k : ℕ) → product_at K divisor (coefficient K (set quotient s factor)) k ≡ product_at K divisor (coefficient K quotient) k ⊕ factor ⊗ shifted K s divisor k
    product_after k =
        product_same K divisor (coefficient K (set quotient s factor))
        (λ j. coefficient K quotient j ⊕ gained j) (λ j. sym (add_twice K (coefficient K quotient j) (coefficient K (set quotient s factor) j))) k
        ∙ product-add K divisor (coefficient K quotient) gained k
        ∙ ap (λ w. product_at K divisor (coefficient K quotient) k ⊕ w) (product_monomial K divisor gained factor s gained_at gained_elsewhere k)

    leading_gone : coefficient K after (s + degree) ≡ 𝟘
    leading_gone =
        added_everywhere (s + degree)
        ∙ ap (λ w. coefficient K remainder (s + degree) ⊕ w) taken
        ∙ add_self K (coefficient K remainder (s + degree))
      where
        at_degree : s + degree - s ≡ degree
        at_degree = omega arith

        taken : factor ⊗ shifted K s divisor (s + degree) ≡ coefficient K remainder (s + degree)
        taken =
            ap₂ ◌⊗◌ is_factor (shifted_from K s divisor (s + degree) (omega arith) ∙ ap divisor at_degree)
            ∙ mul_assoc K (coefficient K remainder (s + degree)) (inverse (divisor degree)) (divisor degree)
            ∙ ap (λ w. coefficient K remainder (s + degree) ⊗ w) (mul_comm K (inverse (divisor degree)) (divisor degree) ∙ mul_inverse K (divisor degree) top.leading)
            ∙ mul_one K (coefficient K remainder (s + degree))

    whole_after : (k : ℕ) → product_at K divisor (coefficient K (set quotient s factor)) k ⊕ coefficient K after k ≡ product_at K divisor (coefficient K quotient) k ⊕ coefficient K remainder k
    whole_after k =
        ap₂ ◌⊕◌ (product_after k) (added_everywhere k)
        ∙ add_swap K (product_at K divisor (coefficient K quotient) k) (factor ⊗ shifted K s divisor k) (coefficient K remainder k) (factor ⊗ shifted K s divisor k)
        ∙ ap (λ w. product_at K divisor (coefficient K quotient) k ⊕ coefficient K remainder k ⊕ w) (add_self K (factor ⊗ shifted K s divisor k))
        ∙ add_zero K (product_at K divisor (coefficient K quotient) k ⊕ coefficient K remainder k)

    reduced_after : (k : ℕ) → s + degree ≤ k → coefficient K after k ≡ 𝟘
    reduced_after k h =
        elim (cases_eq k (s + degree)) [
          | inl same ↦ rw same leading_gone
          | inr apart ↦ added_everywhere k ∙ ap₂ ◌⊕◌ (before.reduced k (omega arith)) (past_degree k (omega arith)) ∙ add_zero K 𝟘
        ]

    pub divided_step : DividedTo s dividend divisor degree (set quotient s factor) after
    divided_step = record {
      quotient_full = length-set quotient s factor ∙ before.quotient_full;
      remainder_full = full ∙ before.remainder_full;
      whole = λ k. before.whole k ∙ sym (whole_after k);
      reduced = reduced_after;
      below = λ k h. written_elsewhere K quotient s k factor (omega arith) ∙ before.below k (omega arith);
    }
