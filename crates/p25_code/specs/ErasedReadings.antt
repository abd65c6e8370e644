-- Decoding of lists with erasures as functions: the codeword of the set within the cost, or none if no codeword costs that little.
use Rattle.std.specs.Prelude.{◌≡◌, ℕ, ◌≤◌, Bool, List, length, Option, Some, None}
use Rattle.p25_code.specs.{Erasures.{erased_cost, NoneWithinCost}, Readings.{Tested, Searched, word_within, word_within-meets}}

-- a codeword of the set is within the cost
pub record IsWithinCost {L : Type 0} (same : L → L → Bool) (IsWord : List L → Type 0) (most : ℕ) (list : List (Option L)) (word : List L) : Type 0 where
  pub word_of_set : IsWord word
  pub within : erased_cost same list word ≤ most

-- a decoding as a value: a codeword of the set within the cost, or none if and only if no codeword costs that little
unfoldable pub IsErasedReadAs : {L : Type 0} → (L → L → Bool) → (List L → Type 0) → ℕ → List (Option L) → Option (List L) → Type 0
IsErasedReadAs same IsWord most list (Some word) = IsWithinCost same IsWord most list word
IsErasedReadAs same IsWord most list None = NoneWithinCost same IsWord most list

-- the decoding of a list with erasures, for a set of codewords of n letters
pub erased_reading_of : {L : Type 0} → Searched L → (L → L → Bool) → (IsWord : List L → Type 0) → Tested IsWord → (n most : ℕ) → List (Option L)
    → Option (List L)
erased_reading_of letters same IsWord test n most list = word_within letters IsWord test n (erased_cost same list) most

pub IsErasedReadAs-erased_reading_of : {L : Type 0} (letters : Searched L) (same : L → L → Bool) (IsWord : List L → Type 0) (test : Tested IsWord) (n most : ℕ)
    → ((word : List L) → IsWord word → length word ≡ n) → (list : List (Option L))
    → IsErasedReadAs same IsWord most list (erased_reading_of letters same IsWord test n most list)
unfolding IsErasedReadAs erased_reading_of
IsErasedReadAs-erased_reading_of letters same IsWord test n most long list =
    word_within-meets letters IsWord test n (erased_cost same list) most long (IsErasedReadAs same IsWord most list)
    (λ word is near. record { word_of_set = is; within = near }) (λ none. record { dearer = none })
