-- Lists with erasures: at each position a letter or an erasure. Decoding such a list up to a cost, at which a wrong letter costs two and an erasure
-- one.
use Rattle.std.specs.Prelude.{◌≡◌, ℕ, ◌+◌, ◌*◌, ◌<◌, ◌≤◌, Bool, if◌then◌else◌, List, [], ◌∷◌, Option, Some, None}
use Rattle.p25_bits.specs.Distance.{distance_by}
use Rattle.p25_code.specs.{declared.code.Reading.{Reading}, declared.code.Reading.TheVariants.{Found, Beyond}}

-- letters with an erasure at each erased position
unfoldable pub without_erased : {L : Type 0} → List L → List Bool → List (Option L)
without_erased [] erased = []
without_erased (x ∷ xs) [] = Some x ∷ without_erased xs []
without_erased (x ∷ xs) (gone ∷ erased) = (if gone then None else Some x) ∷ without_erased xs erased

-- the weight of a position: 1 for an erasure, 0 for a letter
abbrev pub erasure_weight : {L : Type 0} → Option L → ℕ
erasure_weight None = 1
erasure_weight (Some y) = 0

-- the number of erasures of a list
unfoldable pub erasures_in : {L : Type 0} → List (Option L) → ℕ
erasures_in [] = 0
erasures_in (y ∷ list) = erasure_weight y + erasures_in list

-- whether a position differs from a letter: 1 or 0, and 0 with an erasure
abbrev pub letter_distance : {L : Type 0} → (L → L → Bool) → Option L → L → ℕ
letter_distance same None x = 0
letter_distance same (Some y) x = if same y x then 0 else 1

-- the number of positions without an erasure in which a list differs from a word
unfoldable pub kept_distance : {L : Type 0} → (L → L → Bool) → List (Option L) → List L → ℕ
kept_distance same [] word = 0
kept_distance same (y ∷ list) [] = 0
kept_distance same (y ∷ list) (x ∷ word) = letter_distance same y x + kept_distance same list word

-- the cost of a word: two for each wrong letter, and one for each erasure
unfoldable pub erased_cost : {L : Type 0} → (L → L → Bool) → List (Option L) → List L → ℕ
erased_cost same list word = 2 * kept_distance same list word + erasures_in list

-- no codeword of the set costs that little
pub record NoneWithinCost {L : Type 0} (same : L → L → Bool) (IsWord : List L → Type 0) (most : ℕ) (list : List (Option L)) : Type 0 where
  pub dearer : (word : List L) → IsWord word → most < erased_cost same list word

-- the received word became a codeword of the set within the cost, and `fixes` letters changed
pub record IsErasedFound {L : Type 0} (same : L → L → Bool) (IsWord : List L → Type 0) (most : ℕ) (list : List (Option L)) (received word : List L) (fixes : ℕ)
    : Type 0 where
  pub word_of_set : IsWord word
  pub within : erased_cost same list word ≤ most
  pub fixes_is : fixes ≡ distance_by same received word

-- the received word is unchanged, and no codeword of the set is within the cost
pub record IsErasedBeyond {L : Type 0} (same : L → L → Bool) (IsWord : List L → Type 0) (most : ℕ) (list : List (Option L)) (received word : List L)
    : Type 0 where
  pub unchanged : word ≡ received
  pub none_within : NoneWithinCost same IsWord most list

-- decoding a list with erasures up to a cost: the list, the received letters, the letters left, and the result
unfoldable pub IsErasedReading : {L : Type 0} → (L → L → Bool) → (List L → Type 0) → ℕ → List (Option L) → List L → List L → Reading → Type 0
IsErasedReading same IsWord most list received word (Found fixes) = IsErasedFound same IsWord most list received word fixes
IsErasedReading same IsWord most list received word Beyond = IsErasedBeyond same IsWord most list received word
