-- Multiples that are added to the symbols of a list, and values in 1/x: at a zero of a polynomial, a multiple of it changes no value.
use Rattle.std.proofs.{Common.{◌≡◌, ◌≢◌, ℕ, ◌+◌, ◌-◌, ◌<◌, ◌≤◌, List, length, set, refl, sym, ap, ap₂, ◌∙◌, inl, inr, arith}, lemmas.Bool.{cases_eq, cases_lt}}
use Rattle.p25_gf64.specs.Field.{Field, power}
use Rattle.p25_gf64.proofs.{FieldLaws.{add_zero, add_self, mul_comm, mul_assoc, mul_zero, one_mul, mul_one, mul_inverse}, PowerLaws.{power-one, power-add, power_of_mul, power_of_one}}
use Rattle.p25_algebra.specs.{Sums.{sum_below}, Series.{coefficient, value_at, shifted, IsShort}}
use Rattle.p25_algebra.proofs.{SumLaws.{sum_same, sum-mul}, ValueLaws.{value_same}, ProductValueLaws.{value-add, value-mul, value_longer, value-shifted}, ProductLaws.{shifted_from}}
use Rattle.p25_poly.proofs.CoefficientLaws.{written_at, written_elsewhere, nothing_added}

module _ {F : Type 0} (K : Field F) where
  open K use {zero as 𝟘, one as 𝟙, add as ◌⊕◌, mul as ◌⊗◌, inverse}

  infixl 65 ◌⊕◌
  infixl 70 ◌⊗◌
  -- ---- the loop of add_multiple

  -- a list while a multiple of g, shifted by s, is added to it: the coefficients before i have it
  pub record AddedTo (i : ℕ) (into : List F) (old : ℕ → F) (factor : F) (s : ℕ) (g : ℕ → F) : Type 0 where
    pub before : (j : ℕ) → j < i → coefficient K into j ≡ old j ⊕ factor ⊗ shifted K s g j
    pub after : (j : ℕ) → i ≤ j → coefficient K into j ≡ old j

  pub added_none : (into : List F) (factor : F) (s : ℕ) (g : ℕ → F) → AddedTo (s + 0) into (coefficient K into) factor s g
  added_none into factor s g = record {
    before = λ j low. nothing_added K (coefficient K into j) factor s g j (omega arith);
    after = λ j high. refl;
  }

  pub added_more : (i : ℕ) (into : List F) (old : ℕ → F) (factor : F) (s : ℕ) (g : ℕ → F) (x : F)
      → s + i < length into → x ≡ coefficient K into (s + i) ⊕ factor ⊗ g i → AddedTo (s + i) into old factor s g
      → AddedTo (s + (i + 1)) (set into (s + i) x) old factor s g
  added_more i into old factor s g x within e kept = record {
    before = λ j low. elim (cases_eq j (s + i)) [
      | inl same ↦ rw same
          (written_at K into (s + i) x within
          ∙ e
          ∙ ap₂ (λ a b. a ⊕ factor ⊗ b) (kept.after (s + i) (omega arith)) (sym (shifted_from K s g (s + i) (omega arith) ∙ ap g unshifted)))
      | inr apart ↦ written_elsewhere K into (s + i) j x apart ∙ kept.before j (omega arith)
    ];
    after = λ j high. written_elsewhere K into (s + i) j x (omega arith) ∙ kept.after j (omega arith);
  }
    where
      unshifted : s + i - s ≡ i
      unshifted = omega arith

  pub added_all : (count i : ℕ) (into : List F) (old : ℕ → F) (factor : F) (s : ℕ) (g : ℕ → F)
      → count ≤ i → IsShort K count g → AddedTo (s + i) into old factor s g → (j : ℕ) → coefficient K into j ≡ old j ⊕ factor ⊗ shifted K s g j
  added_all count i into old factor s g enough short kept j =
      elim (cases_lt j _) [
        | inl below ↦ kept.before j below
        | inr above ↦
            cc (kept.after j above, shifted_from K s g j (omega arith), short.above (j - s) (omega arith), mul_zero K factor, add_zero K (old j))
      ]

  -- ---- values

  -- the value after a multiple of g, shifted by s, was added
  pub value-added : (n k s : ℕ) (f g h : ℕ → F) (c y : F) → IsShort K k g
      → s + k ≤ n → ((j : ℕ) → h j ≡ f j ⊕ c ⊗ shifted K s g j) → value_at K n h y ≡ value_at K n f y ⊕ c ⊗ (power K y s ⊗ value_at K k g y)
  value-added n k s f g h c y short fits e =
      cc (value_same K n h (λ j. f j ⊕ c ⊗ shifted K s g j) y (λ j low. e j), value-add K n f (λ j. c ⊗ shifted K s g j) y, value-mul K n c (shifted K s g) y, value-shifted K s k n g y short fits)

  -- it stays at a zero of g
  pub value_stays : (n k s : ℕ) (f g h : ℕ → F) (c y : F) → IsShort K k g → s + k ≤ n → ((j : ℕ) → h j ≡ f j ⊕ c ⊗ shifted K s g j) → value_at K k g y ≡ 𝟘 → value_at K n h y ≡ value_at K n f y
  value_stays n k s f g h c y short fits e none =
      cc (value-added n k s f g h c y short fits e, none, mul_zero K (power K y s), mul_zero K c, add_zero K (value_at K n f y))

  -- times 1 + c y: old zeros stay zeros
  pub old_zero : (k n : ℕ) (f h : ℕ → F) (c y : F) → n ≡ 1 + k → IsShort K k f → ((j : ℕ) → h j ≡ f j ⊕ c ⊗ shifted K 1 f j) → value_at K k f y ≡ 𝟘 → value_at K n h y ≡ 𝟘
  old_zero k n f h c y size short e none =
      value_stays n k 1 f f h c y short (omega arith) e none ∙ value_longer K k n f y (omega arith) short ∙ none

  -- and so does the inverse of c
  pub new_zero : (k n : ℕ) (f h : ℕ → F) (c : F) → n ≡ 1 + k → IsShort K k f → ((j : ℕ) → h j ≡ f j ⊕ c ⊗ shifted K 1 f j) → c ≢ 𝟘 → value_at K n h (inverse c) ≡ 𝟘
  new_zero k n f h c size short e apart =
      cc (
        value-added n k 1 f f h c _ short (omega arith) e,
        value_longer K k n f _ (omega arith) short,
        power-one K _,
        mul_assoc K c _ (value_at K k f _),
        mul_inverse K c apart,
        one_mul K (value_at K k f (inverse c)),
        add_self K (value_at K k f (inverse c)),
      )

  pub longer_by_one : (k n : ℕ) (f h : ℕ → F) (c : F) → n ≡ 1 + k → IsShort K k f → ((j : ℕ) → h j ≡ f j ⊕ c ⊗ shifted K 1 f j) → IsShort K n h
  longer_by_one k n f h c size short e = record {
    above = λ i high.
        e i
        ∙ ap₂ (λ a b. a ⊕ c ⊗ b) (short.above i (omega arith)) (shifted_from K 1 f i (omega arith) ∙ short.above (i - 1) (omega arith))
        ∙ ap (λ w. 𝟘 ⊕ w) (mul_zero K c)
        ∙ add_zero K 𝟘;
  }

  pub first_stays : (f h : ℕ → F) (c : F) → ((j : ℕ) → h j ≡ f j ⊕ c ⊗ shifted K 1 f j) → h 0 ≡ f 0
  first_stays f h c e = e 0 ∙ sym (nothing_added K _ c 1 f 0 (omega arith))

  -- a power of x is the highest times a power of 1/x
  power_down : (x : F) (n j : ℕ) → x ≢ 𝟘 → j < n → power K x (n - 1 - j) ≡ power K x (n - 1) ⊗ power K (inverse x) j
  power_down x n j apart low =
      cc (
        mul_one K (power K x _),
        power_of_one K j,
        mul_inverse K x apart,
        power_of_mul K x (inverse x) j,
        mul_assoc K (power K x (n - 1 - j)) (power K x j) (power K (inverse x) j),
        power-add K x _ j,
        whole,
      )
    where
      whole : n - 1 - j + j ≡ n - 1
      whole = omega arith

  -- the value with the highest coefficient first is the value in 1/x times the highest power
  pub value_down : (n : ℕ) (f : ℕ → F) (x : F) → x ≢ 𝟘 → sum_below K n (λ j. f j ⊗ power K x (n - 1 - j)) ≡ power K x (n - 1) ⊗ value_at K n f (inverse x)
  value_down n f x apart =
      sum_same K n _ _
      (λ j low. cc (power_down x n j apart low, regroup _ _ _))
      ∙ sum-mul K n _ _
    where
      regroup : (a b c : F) → a ⊗ (b ⊗ c) ≡ b ⊗ (a ⊗ c)
      regroup a b c = cc (mul_assoc K a b c, mul_comm K a b, mul_assoc K b a c)
