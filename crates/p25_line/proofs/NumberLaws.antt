-- Numbers are read from their decimal texts. By recursion on the bound.
use Rattle.std.proofs.{Common.{◌≡◌, ℕ, zero, suc, ◌^◌, ◌<◌, ◌≤◌, List, decimal, Some, None, inl, inr, refl, sym, ap, ◌∙◌, arith}, lemmas.Bool.{cases_Bool, cases_lt, cond-true, cond-false, true≢false}}
use Rattle.std.proofs.{lemmas.Fmt.{decimal_injective}, lemmas.Slice.Eq.{bytes_eq-Decides}}
use Rattle.std.specs.Str.{bytes_eq}
use Rattle.p25_line.specs.Values.{number_below}

-- a number below a bound is read from its text
pub number_below-decimal : (most number : ℕ) → number < most → most ≤ 2 ^ 64 → number_below most (decimal number) ≡ Some number
unfolding number_below
number_below-decimal zero number below fits = absurd (omega arith)
number_below-decimal (suc top) number below fits =
    elim (cases_Bool (bytes_eq (decimal number) (decimal top))) [
      | inl same ↦
          let here : number ≡ top = decimal_injective number top (omega arith) (omega arith) ((bytes_eq-Decides (decimal number) (decimal top)).0 same) in
          rw (cond-true, ← here)
      | inr other ↦
          let lower : number < top = elim (cases_lt number top) [
            | inl less ↦ less
            | inr not_less ↦
                absurd (true≢false (sym ((bytes_eq-Decides (decimal number) (decimal top)).1 (ap decimal (omega (arith, not_less, below)))) ∙ other))
          ] in
          cond-false (bytes_eq (decimal number) (decimal top)) (Some top) (number_below top (decimal number)) other
          ∙ number_below-decimal top number lower (omega arith)
    ]

-- a word that decodes to a number is its text
pub decimal-number_below : (most : ℕ) (word : List ℕ) (number : ℕ) → number_below most word ≡ Some number → (decimal number ≡ word) × (number < most)
unfolding number_below
decimal-number_below zero word number found = cc
decimal-number_below (suc top) word number found =
    elim (cases_Bool (bytes_eq word (decimal top))) [
      | inl same ↦
          let here : top ≡ number = cc in
          (ap decimal (sym here) ∙ sym ((bytes_eq-Decides word (decimal top)).0 same), omega (arith, here))
      | inr other ↦
          let facts = decimal-number_below top word number (sym (cond-false (bytes_eq word (decimal top)) (Some top) (number_below top word) other) ∙ found) in
          (facts.0, omega (arith, facts.1))
    ]

-- a word that is no such text has no decoding
pub number_below-none : (most : ℕ) (word : List ℕ) → ((number : ℕ) → number < most → decimal number ≡ word → ⊥) → number_below most word ≡ None
unfolding number_below
number_below-none zero word refused = refl
number_below-none (suc top) word refused =
    elim (cases_Bool (bytes_eq word (decimal top))) [
      | inl same ↦ absurd (refused top (omega arith) (sym ((bytes_eq-Decides word (decimal top)).0 same)))
      | inr other ↦
          cond-false (bytes_eq word (decimal top)) (Some top) (number_below top word) other
          ∙ number_below-none top word (λ number below. refused number (omega (arith, below)))
    ]
