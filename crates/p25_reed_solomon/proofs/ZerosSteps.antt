-- The positions at which a polynomial vanishes, listed in rising order: one position at a time, and no more than the polynomial has coefficients.
use Rattle.std.proofs.{Common.{◌≡◌, ◌≢◌, ℕ, ◌+◌, ◌<◌, ◌≤◌, List, [], ◌∷◌, ◌++◌, length, get_or, inl, inr, refl, sym, ◌∙◌, arith}, lemmas.Bool.{cases_lt, cases_eq, cases_order}}
use Rattle.std.proofs.lemmas.List.{get_or_append_left, get_or_at, length_push}
use Rattle.p25_gf64.specs.{declared.symbol.Sym.{Sym}, Gf64.{gf64}}
use Rattle.p25_algebra.specs.{Sums.{AreApart}, Series.{coefficient, value_at, IsZero}}
use Rattle.p25_algebra.proofs.ValueLaws.{few_zeros}
use Rattle.p25_poly.proofs.CoefficientLaws.{coefficient_past}
use Rattle.p25_reed_solomon.specs.{ElementLaws.{same_point}, Errors.{point_of, AreZeros}}

-- a polynomial with as many zeros as coefficients has no coefficient
pub AreZeros-few : (n upto : ℕ) (polynomial : List Sym) (places : List ℕ)
    → n ≤ 63 → upto ≤ n → AreZeros n polynomial upto places → (IsZero gf64 (coefficient gf64 polynomial) → ⊥) → length places < length polynomial
AreZeros-few n upto polynomial places most within are some =
    elim (cases_lt (length places) _) [
      | inl fewer ↦ fewer
      | inr many ↦ absurd (some (λ i. elim (cases_lt i _) [
        | inl low ↦ few_zeros gf64 _ (length places) _ _ many apart are.zeros i low
        | inr high ↦ coefficient_past gf64 polynomial i high
      ]))
    ]
  where
    apart : AreApart (length places) (λ c. point_of n (get_or places c 0))
    apart = record {
      apart = λ a b first second same.
          let e = same_point n (get_or places a 0) (get_or places b 0) most (omega (arith, are.below a first)) (omega (arith, are.below b second)) same in
          elim (cases_order a b) [
            | inl equal ↦ equal
            | inr other ↦ elim other [
              | inl less ↦ absurd (omega (arith, are.rising a b less second, e))
              | inr more ↦ absurd (omega (arith, are.rising b a more first, e))
            ]
          ];
    }

-- before the first position none is listed
pub AreZeros-none : (n : ℕ) (locator : List Sym) → AreZeros n locator 0 []
AreZeros-none n locator =
    record {
      below = λ c h. absurd (omega arith);
      rising = λ c d h k. absurd (omega arith);
      zeros = λ c h. absurd (omega arith);
      all = λ j h z. absurd (omega arith);
    }

-- a position at which the locator does not vanish is not listed
pub AreZeros-skip : (n : ℕ) (locator : List Sym) (j : ℕ) (places : List ℕ)
    → AreZeros n locator j places → value_at gf64 (length locator) (coefficient gf64 locator) (point_of n j) ≢ gf64.zero → AreZeros n locator (j + 1) places
AreZeros-skip n locator j places are other =
    record {
      below = λ c h. omega (arith, are.below c h);
      rising = are.rising;
      zeros = are.zeros;
      all = λ k h z. elim (cases_eq k j) [
        | inl here ↦ absurd (other (cc))
        | inr before ↦ are.all k (omega (arith, before)) z
      ];
    }

pushed_last : (places : List ℕ) (j c : ℕ) → c ≡ length places → get_or (places ++ j ∷ []) c 0 ≡ j
pushed_last places j c here = get_or_at places j [] 0 c (sym here)

-- a position at which it vanishes is
pub AreZeros-push : (n : ℕ) (locator : List Sym) (j : ℕ) (places : List ℕ) → AreZeros n locator j places
    → value_at gf64 (length locator) (coefficient gf64 locator) (point_of n j) ≡ gf64.zero → AreZeros n locator (j + 1) (places ++ j ∷ [])
AreZeros-push n locator j places are here =
    let long = length_push places j in
    let old : (c : ℕ) → c < length places → get_or (places ++ j ∷ []) c 0 ≡ get_or places c 0 = λ c h. get_or_append_left places _ 0 c h in
    record {
      below = λ c h. elim (cases_lt c (length places)) [
        | inl inside ↦ omega (arith, are.below c inside, old c inside)
        | inr last ↦ omega (arith, pushed_last places)
      ];
      rising = λ c d h k. elim (cases_lt d (length places)) [
        | inl inside ↦ omega (arith, are.rising c, old c, old d inside)
        | inr last ↦
            let within : c < length places = omega (arith, long) in
            omega (arith, are.below c within, old c within, pushed_last places)
      ];
      zeros = λ c h. elim (cases_lt c (length places)) [
        | inl inside ↦ simp old (are.zeros c inside)
        | inr last ↦ rw (pushed_last places j c (omega (arith, long))) here
      ];
      all = λ k h z. elim (cases_eq k j) [
        | inl same ↦ record { index = length places; inside = omega (arith, long); there = pushed_last places j (length places) refl ∙ sym same }
        | inr before ↦
            let listed = are.all k (omega (arith, before)) z in
            record { index = listed.index; inside = omega (arith, long, listed.inside); there = old listed.index listed.inside ∙ listed.there }
      ];
    }
