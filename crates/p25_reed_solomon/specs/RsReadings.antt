-- The decoding of the Reed-Solomon codes as functions, for symbols and for lists with erasures. Symbols are searched by their numbers, and whether a
-- word vanishes is tested at each power of α.
use Rattle.std.specs.Prelude.{◌≡◌, ◌⊎◌, ℕ, zero, suc, ◌+◌, ◌-◌, ◌<◌, ◌≤◌, List, length, Option}
use Rattle.std.proofs.{Common.{ap, sym, subst, ◌∙◌, inl, inr, arith, lit≤}, lemmas.Bool.{cases_eq}}
use Rattle.p25_code.specs.Readings.{Tested, Searched, reading_of, IsReadAs, IsReadAs-reading_of}
use Rattle.p25_code.specs.ErasedReadings.{erased_reading_of, IsErasedReadAs, IsErasedReadAs-erased_reading_of}
use Rattle.p25_gf64.specs.{declared.symbol.Sym.{Sym}, Symbol.{number, symbol_of, same_symbol}, Gf64.{gf64}}
use Rattle.p25_reed_solomon.specs.{Words.{IsWord, value_of, radius_of, same_symbols}, WordLaws.{length_of_word_of}}

-- some symbol below a number meets a condition, or none does
symbol_below : (P : Sym → Type 0) → Tested P → (n : ℕ) → n ≤ 64 → ((x : Sym) × P x) ⊎ ((x : Sym) → number x < n → ¬ P x)
symbol_below P test zero most = inr (λ x below. absurd (omega arith))
symbol_below P test (suc n) most =
    elim (test last) [
      | inl met ↦ inl (last, met)
      | inr other ↦ elim (symbol_below P test n (omega arith)) [
        | inl found ↦ inl found
        | inr without ↦ inr (none other without)
      ]
    ]
  where
    last : Sym
    last = symbol_of n (omega arith)

    none : ¬ P last → ((x : Sym) → number x < n → ¬ P x) → (x : Sym) → number x < suc n → ¬ P x
    none other without x below =
        elim (cases_eq (number x) n) [
          | inl same ↦ subst (λ y. ¬ P y) (same_symbol last x (sym same)) other
          | inr apart ↦ without x (omega arith)
        ]

-- symbols can be searched
pub symbols_searched : Searched Sym
symbols_searched P test =
    elim (symbol_below P test 64 (lit≤ tt)) [ inl found ↦ inl found | inr without ↦ inr (λ x. without x x.below) ]

-- a word vanishes at each of the first powers of α, or at one of them it does not
vanishes_tested : (n : ℕ) (word : List Sym) (checks : ℕ)
    → ((i : ℕ) → 1 ≤ i → i ≤ checks → value_of n word i ≡ gf64.zero) ⊎ ¬ ((i : ℕ) → 1 ≤ i → i ≤ checks → value_of n word i ≡ gf64.zero)
vanishes_tested n word zero = inl (λ i some most. absurd (omega arith))
vanishes_tested n word (suc checks) =
    elim (gf64.is_zero (value_of n word (suc checks))) [
      | inl last ↦ elim (vanishes_tested n word checks) [
        | inl before ↦ inl (all last before)
        | inr other ↦ inr (λ each. other (λ i some most. each i some (omega arith)))
      ]
      | inr other ↦ inr (λ each. other (each (suc checks) (omega arith) (omega arith)))
    ]
  where
    all : value_of n word (suc checks) ≡ gf64.zero → ((i : ℕ) → 1 ≤ i → i ≤ checks → value_of n word i ≡ gf64.zero) → (i : ℕ) → 1 ≤ i → i ≤ suc checks
        → value_of n word i ≡ gf64.zero
    all last before i some most =
        elim (cases_eq i (suc checks)) [
          | inl same ↦ ap (λ j. value_of n word j) same ∙ last
          | inr lower ↦ before i some (omega arith)
        ]

-- whether a list of symbols is a codeword can be decided
pub IsWord-tested : (n k : ℕ) → Tested (IsWord n k)
IsWord-tested n k word =
    elim (cases_eq (length word) n) [
      | inl long ↦ elim (vanishes_tested n word (n - k)) [
        | inl vanishes ↦ inl (record { long = long; vanishes = vanishes })
        | inr other ↦ inr (λ is. other is.vanishes)
      ]
      | inr other ↦ inr (λ is. other is.long)
    ]

-- the codeword within the correction radius of a received word, or none
pub rs_reading_of : (n k : ℕ) → List Sym → Option (List Sym)
rs_reading_of n k = reading_of symbols_searched same_symbols (IsWord n k) (IsWord-tested n k) n (radius_of n k)

-- it is the decoding
pub rs_reads_as : (n k : ℕ) (received : List Sym) → IsReadAs same_symbols (IsWord n k) (radius_of n k) received (rs_reading_of n k received)
unfolding rs_reading_of
rs_reads_as n k = IsReadAs-reading_of symbols_searched same_symbols (IsWord n k) (IsWord-tested n k) n (radius_of n k) (length_of_word_of n k)

-- the codeword that costs at most n - k, two for each symbol error and one for each erasure, or none
pub rs_erased_reading_of : (n k : ℕ) → List (Option Sym) → Option (List Sym)
rs_erased_reading_of n k = erased_reading_of symbols_searched same_symbols (IsWord n k) (IsWord-tested n k) n (n - k)

-- it is the decoding
pub rs_erased_reads_as : (n k : ℕ) (list : List (Option Sym)) → IsErasedReadAs same_symbols (IsWord n k) (n - k) list (rs_erased_reading_of n k list)
unfolding rs_erased_reading_of
rs_erased_reads_as n k = IsErasedReadAs-erased_reading_of symbols_searched same_symbols (IsWord n k) (IsWord-tested n k) n (n - k) (length_of_word_of n k)

-- the allowed erasures are fewer than the symbols in which two codewords differ
pub erasures_within_of : (n k : ℕ) → n - k < n - k + 1
erasures_within_of n k = omega arith
