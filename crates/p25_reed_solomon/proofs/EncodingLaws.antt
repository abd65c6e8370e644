-- The codeword of an information is a codeword that begins with it. The generator vanishes at the powers of α by induction on its factors, and the
-- multiples that are added for the remainder keep the values there.
use Rattle.std.proofs.{Common.{◌≡◌, ℕ, zero, suc, ◌+◌, ◌-◌, ◌<◌, ◌≤◌, eqb, List, length, refl, ap, sym, ◌∙◌, inl, inr, arith}, lemmas.Bool.{cases_eq, cond-false, ne_eqb}, Math.Seq.{take-length}}
use Rattle.p25_bits.specs.Numbers.{each_below}
use Rattle.p25_bits.proofs.NumbersLaws.{length-each_below, get_or-each_below, each_below-same, take-each_below, each_below-list}
use Rattle.p25_code.specs.Words.{IsEncoding}
use Rattle.p25_gf64.specs.{declared.symbol.Sym.{Sym}, Field.{power}, Symbol.{alpha}, Gf64.{gf64}}
use Rattle.p25_gf64.proofs.{FieldLaws.{add_zero, add_self, mul_one}, PowerLaws.{power_ne_zero}, SymbolLaws.{alpha_ne_zero}}
use Rattle.p25_algebra.specs.Series.{coefficient, value_at, shifted, IsShort}
use Rattle.p25_algebra.proofs.{ValueLaws.{value_same}, ProductValueLaws.{value-add}, ProductLaws.{shifted_from}}
use Rattle.p25_poly.proofs.CoefficientLaws.{nothing_added}
use Rattle.p25_reed_solomon.specs.{Words.{IsCode, IsWord}, Encoding.{generator_of, reduced, rs_word}, WordLaws.{one_word_of}}
use Rattle.p25_reed_solomon.proofs.{MultiplesLaws.{value_stays, old_zero, new_zero, longer_by_one, first_stays}, EncoderSteps.{value_of_word}}
open gf64 use {zero as 𝟘, one as 𝟙, add as ◌⊕◌, mul as ◌⊗◌, inverse}

infixl 65 ◌⊕◌
infixl 70 ◌⊗◌
-- coefficients of a polynomial that begins with 1 and vanishes at α^1 to α^checks
record AreGenerator (checks : ℕ) (g : ℕ → Sym) : Type 0 where
  monic : g 0 ≡ 𝟙
  short : IsShort gf64 (checks + 1) g
  vanishes : (i : ℕ) → 1 ≤ i → i ≤ checks → value_at gf64 (checks + 1) g (inverse (power gf64 alpha i)) ≡ 𝟘

generator_none : AreGenerator 0 (generator_of 0)
unfolding generator_of
generator_none = record {
  monic = refl;
  short = record { above = λ i high. cond-false (eqb i 0) 𝟙 𝟘 (ne_eqb i 0 (λ same. omega (arith, high, same))) };
  vanishes = λ i low high. absurd (omega arith);
}

generator_more : (checks : ℕ) → AreGenerator checks (generator_of checks) → AreGenerator (suc checks) (generator_of (suc checks))
unfolding generator_of
generator_more checks before =
    let root = power gf64 alpha (suc checks) in
    let old = generator_of checks in
    let new = generator_of (suc checks) in
    let added : (j : ℕ) → new j ≡ old j ⊕ root ⊗ shifted gf64 1 old j = λ j. refl in
    record {
      monic = first_stays gf64 old new root added ∙ before.monic;
      short = longer_by_one gf64 _ _ old new root (omega arith) before.short added;
      vanishes = λ k low high. elim (cases_eq k (suc checks)) [
        | inl last ↦ rw last (new_zero gf64 _ _ old new root (omega arith) before.short added (power_ne_zero gf64 alpha (suc checks) alpha_ne_zero))
        | inr other ↦ old_zero gf64 _ _ old new root _ (omega arith) before.short added (before.vanishes k low (omega arith))
      ];
    }

generator_is : (checks : ℕ) → AreGenerator checks (generator_of checks)
generator_is zero = generator_none
generator_is (suc checks) = generator_more checks (generator_is checks)

-- coefficients while the first of them are made zero
record AreReduced (count n checks : ℕ) (start now : ℕ → Sym) : Type 0 where
  same : (k : ℕ) → 1 ≤ k → k ≤ checks → value_at gf64 n now (inverse (power gf64 alpha k)) ≡ value_at gf64 n start (inverse (power gf64 alpha k))
  cleared : (j : ℕ) → j < count → now j ≡ 𝟘

reduced_none : (n checks : ℕ) (g f : ℕ → Sym) → AreReduced 0 n checks f (reduced g 0 f)
unfolding reduced
reduced_none n checks g f = record { same = λ k low high. refl; cleared = λ j none. absurd (omega arith) }

reduced_more : (count n checks : ℕ) (g f : ℕ → Sym) → AreGenerator checks g
    → count + (checks + 1) ≤ n → AreReduced count n checks f (reduced g count f) → AreReduced (suc count) n checks f (reduced g (suc count) f)
unfolding reduced
reduced_more count n checks g f divisor fits before =
    let old = reduced g count f in
    let new = reduced g (suc count) f in
    let factor = old count in
    record {
      same = λ k low high.
          value_stays gf64 n _ count old g new factor _ divisor.short fits (λ j. refl) (divisor.vanishes k low high)
          ∙ before.same k low high;
      cleared = λ j low. elim (cases_eq j count) [
        | inl last ↦ ap new last ∙ ap (λ b. factor ⊕ factor ⊗ b) (shifted_from gf64 count g count (omega arith) ∙ ap g (omega arith) ∙ divisor.monic) ∙ ap (λ w. factor ⊕ w) (mul_one gf64 factor) ∙ add_self gf64 factor
        | inr other ↦ sym (nothing_added gf64 _ factor count g j (omega arith)) ∙ before.cleared j (omega arith)
      ];
    }

reduced_is : (count n checks : ℕ) (g f : ℕ → Sym) → AreGenerator checks g → count + checks ≤ n → AreReduced count n checks f (reduced g count f)
reduced_is zero n checks g f divisor fits = reduced_none n checks g f
reduced_is (suc count) n checks g f divisor fits = reduced_more count n checks g f divisor (omega arith) (reduced_is count n checks g f divisor (omega arith))

-- the word is one of the code, and begins with the information
pub IsEncoding-rs_word : (n k : ℕ) (info : List Sym) → IsCode n k → length info ≡ k → IsEncoding (IsWord n k) k info (rs_word n k info)
unfolding rs_word
IsEncoding-rs_word n k info code long =
    let f = coefficient gf64 info in
    let g = generator_of (n - k) in
    let rest = reduced g k f in
    let h : ℕ → Sym = λ j. f j ⊕ rest j in
    let word = each_below n h in
    let is = reduced_is k n _ g f (generator_is _) (omega (arith, code.shorter)) in
    record {
      word_of_set = record {
        long = length-each_below n h;
        vanishes = λ i low high.
            let y = inverse (power gf64 alpha i) in
            value_of_word n i word
            (cc (value_same gf64 n (coefficient gf64 word) h y (λ j inside. get_or-each_below n h j 𝟘 inside), value-add gf64 n f rest y, is.same i low high, add_self gf64 (value_at gf64 n f y)));
      };
      begins =
          cc (take-each_below k n h (omega (arith, code.shorter)), each_below-same k h f (λ j inside. cc (is.cleared j inside, add_zero gf64 (f j))), each_below-list info 𝟘 k (omega (arith, long)), long, take-length info);
    }

-- so it is every word that does
pub rs_word-only : (n k : ℕ) (info word : List Sym) → IsCode n k → length info ≡ k → IsEncoding (IsWord n k) k info word → word ≡ rs_word n k info
rs_word-only n k info word code long is =
    let made = IsEncoding-rs_word n k info code long in
    one_word_of n k code word _ is.word_of_set made.word_of_set (is.begins ∙ sym made.begins)
