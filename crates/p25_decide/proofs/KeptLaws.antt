-- As many bits as there were, with sync and NID unchanged: an outer codeword that is found has as many symbols as those that were read. So a field has all its
-- codewords, and these are written after sync and NID.
use Rattle.std.proofs.Common.{◌≡◌, ℕ, zero, suc, ◌+◌, ◌-◌, ◌*◌, ◌≤◌, ◌⊎◌, inl, inr, Bool, true, nat_le, List, [], ◌∷◌, length, take, All, Option, Some, None, refl, ap, sym, subst, ◌∙◌, arith, ℤ}
use Rattle.std.proofs.lemmas.{Bool.{leb-true, and_parts}, List.Elements.{All-nil, All-cons}}
use Rattle.std.specs.{Option.{option_or}, List.{list_all}}
use Rattle.p25_code.specs.Words.{Encodes}
use Rattle.p25_code.specs.{Erasures.{without_erased}, ErasedReadings.{IsErasedReadAs}}
use Rattle.p25_gf64.specs.declared.symbol.Sym.{Sym}
use Rattle.p25_reed_solomon.specs.{Words.{IsWord, same_symbols}, RsReadings.{rs_erased_reading_of, rs_erased_reads_as}}
use Rattle.p25_coded_fields.specs.Decided.{InnerWords, first_found, inner_words, marks_by, read_erasing, rank_at, read_marking, symbols_decided, symbols_or, symbols_read, word_decided}
use Rattle.p25_coded_fields.proofs.FieldLaws.{length-field_bits}
use Rattle.p25_decide.specs.{LevelCosts.{field_costs}, DecidedUnits.{field_decided, with_field}}
use Rattle.p25_decide.proofs.{OuterLaws.{length-symbols_read}, PlacesLaws.{length-with_words, take-with_words}}

one_of_two : {X : Type 0} (first second : Option X) (x : X) → option_or first second ≡ Some x → (first ≡ Some x) ⊎ (second ≡ Some x)
one_of_two None second x is = inr is
one_of_two (Some y) second x is = inl is

-- the result is that of one of the decodings
found_in : {X : Type 0} (n : ℕ) (reading : ℕ → Option X) (x : X) → first_found n reading ≡ Some x → (v : ℕ) × (reading v ≡ Some x)
unfolding first_found
found_in zero reading x found = absurd (cc)
found_in (suc n) reading x found = elim (one_of_two (first_found n reading) (reading n) x found) [ inl before ↦ found_in n reading x before | inr here ↦ (n, here) ]

-- it has as many symbols as the code
length-reading : (n k : ℕ) (list : List (Option Sym)) (word : List Sym) → rs_erased_reading_of n k list ≡ Some word → length word ≡ n
unfolding IsErasedReadAs
length-reading n k list word found =
    (subst (λ (o : Option (List Sym)). IsErasedReadAs same_symbols (IsWord n k) (n - k) list o) found (rs_erased_reads_as n k list)).word_of_set.long

length-word_decided : (words : InnerWords) (n k most : ℕ) (costs : List ℕ) (word : List Sym) → word_decided words (rs_erased_reading_of n k) most costs ≡ Some word → length word ≡ n
unfolding word_decided read_erasing read_marking
length-word_decided words n k most costs word found =
    let at = found_in (suc most) (read_erasing words (rs_erased_reading_of n k) costs) word found in
    length-reading n k (without_erased (symbols_read words costs) (marks_by words.each words.count (rank_at words costs) (2 * at.0))) word at.1

length-symbols_or : (n : ℕ) (symbols : List Sym) (found : Option (List Sym)) → length symbols ≡ n → ((word : List Sym) → found ≡ Some word → length word ≡ n) → length (symbols_or symbols found) ≡ n
length-symbols_or n symbols None long other = long
length-symbols_or n symbols (Some word) long other = other word refl

-- the symbols of a field
pub length-symbols_decided : (words : InnerWords) (n k most : ℕ) (costs : List ℕ) → words.each * words.count ≡ n
    → length (symbols_decided words (rs_erased_reading_of n k) most costs) ≡ n
unfolding symbols_decided
length-symbols_decided words n k most costs whole =
    length-symbols_or n (symbols_read words costs) (word_decided words (rs_erased_reading_of n k) most costs) (length-symbols_read words costs ∙ whole)
    (length-word_decided words n k most costs)

-- a field that is written: as many bits as before, and those before its positions
module _ {IsInner : List Bool → Type 0} (size each : ℕ) (long : (word : List Bool) → IsInner word → length word ≡ size) (encoding : List Bool → List Bool) (encodes : Encodes IsInner (6 * each) encoding) where
  length-field_decided : (count n k most : ℕ) (places : List ℕ) (levels : List ℤ) → each * count ≡ n
      → length (field_decided (inner_words count size each encoding) (rs_erased_reading_of n k) most places levels) ≡ size * count
  unfolding field_decided
  length-field_decided count n k most places levels whole =
      let words = inner_words count size each encoding in
      let symbols = symbols_decided words (rs_erased_reading_of n k) most (field_costs size places levels) in
      length-field_bits long encoding encodes each count symbols refl (whole ∙ sym (length-symbols_decided words n k most (field_costs size places levels) whole))

  pub with_field-kept : (count n k most front : ℕ) (places : List ℕ) (levels : List ℤ) (bare : List Bool) → each * count ≡ n → length places ≡ count
      → All (λ at. at + size ≤ length bare) places → All (λ at. front ≤ at) places
      → (length (with_field (inner_words count size each encoding) (rs_erased_reading_of n k) most places levels bare) ≡ length bare)
      × (take front (with_field (inner_words count size each encoding) (rs_erased_reading_of n k) most places levels bare) ≡ take front bare)
  unfolding with_field
  with_field-kept count n k most front places levels bare whole full there behind =
      let words = inner_words count size each encoding in
      let field = field_decided words (rs_erased_reading_of n k) most places levels in
      let all : length field ≡ size * count = length-field_decided count n k most places levels whole in
      let enough : size * length places ≤ length field = omega (arith, ap (λ m. size * m) full, all) in
      (length-with_words size places field bare enough there, take-with_words size front places field bare enough there behind)

-- the positions that a test finds after `front`
pub all_behind : (front : ℕ) (places : List ℕ) → list_all (nat_le front) places ≡ true → All (λ at. front ≤ at) places
all_behind front [] test = All-nil (λ at. front ≤ at)
all_behind front (at ∷ places) test =
    let parts = and_parts (nat_le front at) (list_all (nat_le front) places) test in
    All-cons (λ a. front ≤ a) at places (leb-true front at parts.0) (all_behind front places parts.1)
