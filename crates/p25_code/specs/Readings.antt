-- Decoding as functions of the received word: the codeword of the set within the correction radius, or none if no codeword is that near.
use Rattle.std.specs.Prelude.{◌≡◌, ◌⊎◌, ℕ, zero, suc, ◌<◌, ◌≤◌, Bool, true, false, List, [], ◌∷◌, length, Option, Some, None, refl}
use Rattle.std.proofs.{Common.{ap, subst, inl, inr, arith}, lemmas.Bool.{cases_lt}}
use Rattle.p25_bits.specs.Distance.{distance_by}
use Rattle.p25_code.specs.{declared.code.Reading.{Reading}, declared.code.Reading.TheVariants.{Found, Beyond}, Words.{NoneWithin}}

-- a condition that can be decided
abbrev pub Tested : {X : Type 0} → (X → Type 0) → Type 0
Tested {X} P = (x : X) → P x ⊎ ¬ P x

-- letters that can be searched: for each condition that can be decided, some letter meets it or none does
abbrev pub Searched : Type 0 → Type 1
Searched L = (P : L → Type 0) → Tested P → ((x : L) × P x) ⊎ ((x : L) → ¬ P x)

-- bits can be searched
pub bits_searched : Searched Bool
bits_searched P test =
    elim (test true) [
      | inl met ↦ inl (true, met)
      | inr first ↦ elim (test false) [
        | inl met ↦ inl (false, met)
        | inr second ↦ inr (neither first second)
      ]
    ]
  where
    neither : ¬ P true → ¬ P false → (x : Bool) → ¬ P x
    neither first second true = first
    neither first second false = second

-- two conditions together, and a bound, can be decided
pub both_tested : {X : Type 0} (P Q : X → Type 0) → Tested P → Tested Q → Tested (λ x. P x × Q x)
both_tested P Q first second x =
    elim (first x) [
      | inl p ↦ elim (second x) [ inl q ↦ inl (p, q) | inr other ↦ inr (λ both. other both.1) ]
      | inr other ↦ inr (λ both. other both.0)
    ]

pub le_tested : {X : Type 0} (f : X → ℕ) (most : ℕ) → Tested (λ x. f x ≤ most)
le_tested f most x = elim (cases_lt most (f x)) [ inl more ↦ inr (λ within. omega arith) | inr within ↦ inl within ]

-- a condition that is equivalent to one that can be decided
pub tested_as : {X : Type 0} (P Q : X → Type 0) → ((x : X) → P x → Q x) → ((x : X) → Q x → P x) → Tested P → Tested Q
tested_as P Q to from test x = elim (test x) [ inl met ↦ inl (to x met) | inr other ↦ inr (λ met. other (from x met)) ]

-- some list of so many letters meets a condition, or none does
list_or_none : {L : Type 0} → Searched L → (n : ℕ) (P : List L → Type 0) → Tested P
    → ((word : List L) × ((length word ≡ n) × P word)) ⊎ ((word : List L) → length word ≡ n → ¬ P word)
list_or_none {L} letters zero P test =
    elim (test []) [ inl met ↦ inl ([], (refl, met)) | inr other ↦ inr (λ word long. subst (λ w. ¬ P w) (nothing word long) other) ]
  where
    nothing : (word : List L) → length word ≡ 0 → [] ≡ word
    nothing [] long = refl
    nothing (x ∷ word) long = absurd (omega arith)
list_or_none {L} letters (suc n) P test =
    elim (letters IsFirst (λ x. some_behind x (list_or_none letters n (λ word. P (x ∷ word)) (λ word. test (x ∷ word))))) [
      | inl found ↦ inl (found.0 ∷ found.1.0, (ap suc found.1.1.0, found.1.1.1))
      | inr without ↦ inr (none without)
    ]
  where
    -- a letter that some list begins with
    IsFirst : L → Type 0
    IsFirst x = (word : List L) × ((length word ≡ n) × P (x ∷ word))

    some_behind : (x : L) → ((word : List L) × ((length word ≡ n) × P (x ∷ word))) ⊎ ((word : List L) → length word ≡ n → ¬ P (x ∷ word))
        → IsFirst x ⊎ ¬ IsFirst x
    some_behind x (inl some) = inl some
    some_behind x (inr without) = inr (λ some. without some.0 some.1.0 some.1.1)

    none : ((x : L) → ¬ IsFirst x) → (word : List L) → length word ≡ suc n → ¬ P word
    none without [] long met = absurd (omega arith)
    none without (x ∷ word) long met = without x (word, (omega arith, met))

-- some list of so many letters that meets a condition, or none if no list meets it
unfoldable pub IsListWhere : {L : Type 0} → ℕ → (List L → Type 0) → Option (List L) → Type 0
IsListWhere n P (Some word) = (length word ≡ n) × P word
IsListWhere {L} n P None = (word : List L) → length word ≡ n → ¬ P word

-- the list of so many letters with a property, as a function; the law below is all that is known of it
pub list_where : {L : Type 0} → Searched L → (n : ℕ) (P : List L → Type 0) → Tested P → Option (List L)
list_where letters n P test = elim (list_or_none letters n P test) [ inl found ↦ Some found.0 | inr without ↦ None ]

pub IsListWhere-list_where : {L : Type 0} (letters : Searched L) (n : ℕ) (P : List L → Type 0) (test : Tested P) → IsListWhere n P (list_where letters n P test)
unfolding IsListWhere list_where
IsListWhere-list_where letters n P test =
    elim (list_or_none letters n P test) as (λ d. IsListWhere n P (elim d [ inl found ↦ Some found.0 | inr without ↦ None ])) [
      | inl found ↦ found.1
      | inr without ↦ without
    ]

-- the codeword of a set, of n letters, that costs at most a given number, or none if every codeword costs more
pub word_within : {L : Type 0} → Searched L → (IsWord : List L → Type 0) → Tested IsWord → (n : ℕ) (cost : List L → ℕ) (most : ℕ) → Option (List L)
word_within letters IsWord test n cost most =
    list_where letters n (λ word. IsWord word × (cost word ≤ most)) (both_tested IsWord (λ word. cost word ≤ most) test (le_tested cost most))

-- that codeword as a value
unfoldable pub IsWordWithin : {L : Type 0} → (List L → Type 0) → (List L → ℕ) → ℕ → Option (List L) → Type 0
IsWordWithin IsWord cost most (Some word) = IsWord word × (cost word ≤ most)
IsWordWithin {L} IsWord cost most None = (word : List L) → IsWord word → most < cost word

pub IsWordWithin-word_within : {L : Type 0} (letters : Searched L) (IsWord : List L → Type 0) (test : Tested IsWord) (n : ℕ) (cost : List L → ℕ) (most : ℕ)
    → ((word : List L) → IsWord word → length word ≡ n) → IsWordWithin IsWord cost most (word_within letters IsWord test n cost most)
unfolding IsWordWithin IsListWhere word_within
IsWordWithin-word_within {L} letters IsWord test n cost most long =
    read (word_within letters IsWord test n cost most)
    (
    IsListWhere-list_where letters n (λ word. IsWord word × (cost word ≤ most))
    (both_tested IsWord (λ word. cost word ≤ most) test (le_tested cost most))
    )
  where
    read : (answer : Option (List L)) → IsListWhere n (λ word. IsWord word × (cost word ≤ most)) answer → IsWordWithin IsWord cost most answer
    read (Some word) is = is.1
    read None is = λ word w. elim (cases_lt most (cost word)) [ inl dear ↦ dear | inr cheap ↦ absurd (is word (long word w) (w, cheap)) ]

-- to prove a property of the decoded word, prove it of each codeword of the set that costs at most the given number, and of None if every codeword
-- costs more
pub word_within-meets : {L : Type 0} (letters : Searched L) (IsWord : List L → Type 0) (test : Tested IsWord) (n : ℕ) (cost : List L → ℕ) (most : ℕ)
    → ((word : List L) → IsWord word → length word ≡ n) → (P : Option (List L) → Type 0)
    → ((word : List L) → IsWord word → cost word ≤ most → P (Some word)) → (((word : List L) → IsWord word → most < cost word) → P None)
    → P (word_within letters IsWord test n cost most)
unfolding IsWordWithin
word_within-meets {L} letters IsWord test n cost most long P some none =
    read (word_within letters IsWord test n cost most) (IsWordWithin-word_within letters IsWord test n cost most long)
  where
    read : (answer : Option (List L)) → IsWordWithin IsWord cost most answer → P answer
    read (Some word) is = some word is.0 is.1
    read None is = none is

-- a codeword of the set lies within the correction radius of the received word
pub record IsNear {L : Type 0} (same : L → L → Bool) (IsWord : List L → Type 0) (radius : ℕ) (received word : List L) : Type 0 where
  pub word_of_set : IsWord word
  pub within : distance_by same received word ≤ radius

-- a decoding as a value: a codeword of the set within the correction radius, or none if and only if no codeword is that near
unfoldable pub IsReadAs : {L : Type 0} → (L → L → Bool) → (List L → Type 0) → ℕ → List L → Option (List L) → Type 0
IsReadAs same IsWord radius received (Some word) = IsNear same IsWord radius received word
IsReadAs same IsWord radius received None = NoneWithin same IsWord radius received

-- the result of a decoder and the word that it leaves, as that value
unfoldable pub word_read : {L : Type 0} → Reading → List L → Option (List L)
word_read (Found fixes) word = Some word
word_read Beyond word = None

-- the decoding of a received word, for a set of codewords of n letters
pub reading_of : {L : Type 0} → Searched L → (L → L → Bool) → (IsWord : List L → Type 0) → Tested IsWord → (n radius : ℕ) → List L → Option (List L)
reading_of letters same IsWord test n radius received = word_within letters IsWord test n (distance_by same received) radius

pub IsReadAs-reading_of : {L : Type 0} (letters : Searched L) (same : L → L → Bool) (IsWord : List L → Type 0) (test : Tested IsWord) (n radius : ℕ)
    → ((word : List L) → IsWord word → length word ≡ n) → (received : List L)
    → IsReadAs same IsWord radius received (reading_of letters same IsWord test n radius received)
unfolding IsReadAs reading_of
IsReadAs-reading_of letters same IsWord test n radius long received =
    word_within-meets letters IsWord test n (distance_by same received) radius long (IsReadAs same IsWord radius received)
    (λ word is near. record { word_of_set = is; within = near }) (λ none. record { farther = none })
