-- The steps of the encoder of Reed-Solomon codewords: the generator one factor at a time, and the division one symbol at a time. The codeword is the
-- sum of two lists that have the same value at each power of α.
use Rattle.std.proofs.{Common.{◌≡◌, ◌≢◌, ℕ, ◌+◌, ◌-◌, ◌<◌, ◌≤◌, List, replicate, set, sym, ap, ap₂, ◌∙◌, inl, inr, arith}, lemmas.Bool.{cases_eq, cases_lt}, lemmas.List.{length-replicate}}
use Rattle.p25_gf64.specs.{declared.symbol.Sym.{Sym}, Field.{power}, Symbol.{alpha}, Gf64.{gf64}}
use Rattle.p25_gf64.proofs.{FieldLaws.{add_zero, zero_add, add_self, mul_zero, mul_one}, PowerLaws.{power-mul, power_ne_zero}, SymbolLaws.{alpha_ne_zero}}
use Rattle.p25_algebra.specs.Series.{coefficient, value_at, shifted}
use Rattle.p25_algebra.proofs.{SumLaws.{sum_same}, ValueLaws.{value_same}, ProductValueLaws.{value-add}, ProductLaws.{shifted_from}}
use Rattle.p25_poly.proofs.CoefficientLaws.{coefficient_blank, written_at, written_elsewhere, nothing_added}
use Rattle.p25_reed_solomon.specs.{Generator.{IsGenerator}, Words.{value_of}}
use Rattle.p25_reed_solomon.proofs.MultiplesLaws.{value_stays, old_zero, new_zero, longer_by_one, first_stays, value_down}
open gf64 use {zero as 𝟘, one as 𝟙, add as ◌⊕◌, mul as ◌⊗◌, inverse}

infixl 65 ◌⊕◌
infixl 70 ◌⊗◌
-- ---- the generator

-- one is the product of no factors
pub generator_none : (z one : Sym) → z ≡ 𝟘 → one ≡ 𝟙 → IsGenerator 0 (set (replicate 64 z) 0 one)
generator_none z one none same = record {
  monic = written_at gf64 (replicate 64 z) 0 one (omega (arith, length-replicate 64 z)) ∙ same;
  short = record { above = λ i high. written_elsewhere gf64 (replicate 64 z) 0 i one (omega arith) ∙ coefficient_blank gf64 z 64 i none };
  vanishes = λ i low high. absurd (omega arith);
}

-- one factor more
pub generator_more : (i : ℕ) (old new : List Sym) (root : Sym) → root ≡ power gf64 alpha (i + 1)
    → ((j : ℕ) → coefficient gf64 new j ≡ coefficient gf64 old j ⊕ root ⊗ shifted gf64 1 (coefficient gf64 old) j) → IsGenerator i old
    → IsGenerator (i + 1) new
generator_more i old new root same added before = record {
  monic = first_stays gf64 (coefficient gf64 old) (coefficient gf64 new) root added ∙ before.monic;
  short = longer_by_one gf64 (i + 1) (i + 1 + 1) (coefficient gf64 old) (coefficient gf64 new) root (omega arith) before.short added;
  vanishes = λ k low high. elim (cases_eq k (i + 1)) [
    | inl last ↦ rw last
        (ap (λ x. value_at gf64 (i + 1 + 1) (coefficient gf64 new) (inverse x)) (sym same)
        ∙ new_zero gf64 (i + 1) (i + 1 + 1) (coefficient gf64 old) (coefficient gf64 new) root (omega arith) before.short added apart)
    | inr other ↦ old_zero gf64 (i + 1) (i + 1 + 1) (coefficient gf64 old)
        (coefficient gf64 new) root (inverse (power gf64 alpha k)) (omega arith) before.short added (before.vanishes k low (omega arith))
  ];
}
  where
    apart : root ≢ 𝟘
    apart e = power_ne_zero gf64 alpha (i + 1) alpha_ne_zero (sym same ∙ e)

-- ---- the division

-- a word while its first i symbols are made zero by multiples of the generator
pub record IsDividedTo (i n checks : ℕ) (start word : List Sym) : Type 0 where
  pub same : (k : ℕ) → 1 ≤ k → k ≤ checks → value_at gf64 n (coefficient gf64 word) (inverse (power gf64 alpha k)) ≡ value_at gf64 n (coefficient gf64 start) (inverse (power gf64 alpha k))
  pub cleared : (j : ℕ) → j < i → coefficient gf64 word j ≡ 𝟘

-- one symbol more
pub divided_more : (i n checks : ℕ) (start old new generator : List Sym) (factor : Sym) → IsGenerator checks generator → i + (checks + 1) ≤ n → factor ≡ coefficient gf64 old i
    → ((j : ℕ) → coefficient gf64 new j ≡ coefficient gf64 old j ⊕ factor ⊗ shifted gf64 i (coefficient gf64 generator) j) → IsDividedTo i n checks start old → IsDividedTo (i + 1) n checks start new
divided_more i n checks start old new generator factor divisor fits read added before = record {
  same = λ k low high.
      value_stays gf64 n (checks + 1) i (coefficient gf64 old) (coefficient gf64 generator)
      (coefficient gf64 new) factor (inverse (power gf64 alpha k)) divisor.short fits added (divisor.vanishes k low high)
      ∙ before.same k low high;
  cleared = λ j low. elim (cases_eq j i) [
    | inl last ↦ rw last
        (added i
        ∙ ap₂ (λ a b. a ⊕ factor ⊗ b) (sym read) (shifted_from gf64 i (coefficient gf64 generator) i (omega arith) ∙ ap (coefficient gf64 generator) none ∙ divisor.monic)
        ∙ ap (λ w. factor ⊕ w) (mul_one gf64 factor)
        ∙ add_self gf64 factor)
    | inr other ↦
        added j
        ∙ sym (nothing_added gf64 (coefficient gf64 old j) factor i (coefficient gf64 generator) j (omega arith))
        ∙ before.cleared j (omega arith)
  ];
}
  where
    none : i - i ≡ 0
    none = omega arith

-- ---- the word

-- the value of a word at a power of α other than zero, by its value in the inverse
pub value_of_word : (n i : ℕ) (word : List Sym) → value_at gf64 n (coefficient gf64 word) (inverse (power gf64 alpha i)) ≡ 𝟘 → value_of n word i ≡ 𝟘
value_of_word n i word none =
    sum_same gf64 n (λ j. coefficient gf64 word j ⊗ power gf64 alpha _) (λ j. coefficient gf64 word j ⊗ power gf64 _ _)
    (λ j low. rw (power-mul))
    ∙ value_down gf64 n (coefficient gf64 word) _ (power_ne_zero gf64 alpha i alpha_ne_zero)
    ∙ ap (λ w. power gf64 (power gf64 alpha i) (n - 1) ⊗ w) none
    ∙ mul_zero gf64 _

-- the sum of two lists with one value has the value zero
pub sum_vanishes : (n : ℕ) (first second word : List Sym) (y : Sym) → ((j : ℕ) → j < n → coefficient gf64 word j ≡ coefficient gf64 first j ⊕ coefficient gf64 second j)
    → value_at gf64 n (coefficient gf64 second) y ≡ value_at gf64 n (coefficient gf64 first) y → value_at gf64 n (coefficient gf64 word) y ≡ 𝟘
sum_vanishes n first second word y sum same =
    cc (
      value_same gf64 n (coefficient gf64 word) (λ j. coefficient gf64 first j ⊕ coefficient gf64 second j) y sum,
      value-add gf64 n (coefficient gf64 first) (coefficient gf64 second) y,
      same,
      add_self gf64 (value_at gf64 n (coefficient gf64 first) y),
    )

-- the word is the sum of the information followed by zeros and the remainder
pub word_is_sum : (k n : ℕ) (info blank placed divided word : List Sym) → ((j : ℕ) → coefficient gf64 blank j ≡ 𝟘)
    → ((j : ℕ) → j < k → coefficient gf64 placed j ≡ coefficient gf64 info j) → ((j : ℕ) → k ≤ j → coefficient gf64 placed j ≡ coefficient gf64 blank j)
    → ((j : ℕ) → j < k → coefficient gf64 divided j ≡ 𝟘)
    → ((j : ℕ) → j < k → coefficient gf64 word j ≡ coefficient gf64 info j) → ((j : ℕ) → k ≤ j → j < n → coefficient gf64 word j ≡ coefficient gf64 divided j)
    → (j : ℕ) → j < n → coefficient gf64 word j ≡ coefficient gf64 placed j ⊕ coefficient gf64 divided j
word_is_sum k n info blank placed divided word blank_is front rest cleared front_again rest_again j inside =
    elim (cases_lt j k) [
      | inl below ↦ front_again j below ∙ sym (ap₂ ◌⊕◌ (front j below) (cleared j below) ∙ add_zero gf64 _)
      | inr above ↦ cc (rest_again j above inside, rest j above, blank_is j, zero_add gf64 (coefficient gf64 divided j))
    ]
