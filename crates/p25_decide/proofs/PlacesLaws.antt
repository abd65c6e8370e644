-- The bits that stay if codewords are written at positions: with each codeword as many bits stay as were there, and the bits before it and after it.
use Rattle.std.proofs.Common.{◌≡◌, ℕ, ◌+◌, ◌*◌, ◌-◌, ◌<◌, ◌≤◌, ◌⊎◌, inl, inr, Bool, List, [], ◌∷◌, ◌++◌, length, take, drop, All, refl, ap, sym, subst, ◌∙◌, arith, append_assoc, length-append, length-drop}
use Rattle.std.specs.Prelude.{slice_get}
use Rattle.std.proofs.Math.Nat.{mul-suc}
use Rattle.std.proofs.lemmas.{List.{take-append-drop, take-append-le, take-take, length-take-le, drop_at}, List.Elements.{All-head, All-tail}}
use Rattle.p25_bits.proofs.PartLaws.{slice_get-front, slice_get-drop}
use Rattle.p25_decide.specs.DecidedUnits.{with_words}

-- bits with one codeword instead of those at a position
abbrev with_word : ℕ → ℕ → List Bool → List Bool → List Bool
with_word size at words bare = take at bare ++ (take size words ++ drop (at + size) bare)

length-with_word : (size at : ℕ) (words bare : List Bool) → size ≤ length words → at + size ≤ length bare → length (with_word size at words bare) ≡ length bare
length-with_word size at words bare enough there =
    let before : at ≤ length bare = omega arith in
    omega (
      arith,
      length-append (take at bare) (take size words ++ drop (at + size) bare),
      length-append (take size words) (drop (at + size) bare),
      length-take-le at bare before,
      length-take-le size words enough,
      length-drop (at + size) bare,
    )

-- the bits before it
word_before : (size at place : ℕ) (words bare : List Bool) → at ≤ length bare → place < at → slice_get (with_word size at words bare) place ≡ slice_get bare place
word_before size at place words bare there less =
    let inside : place < length (take at bare) = omega (arith, length-take-le at bare there) in
    slice_get-front (take at bare) (take size words ++ drop (at + size) bare) place inside
    ∙ sym (slice_get-front (take at bare) (drop at bare) place inside)
    ∙ ap (λ (xs : List Bool). slice_get xs place) (take-append-drop at bare)

-- the bits after it
word_after : (size at place : ℕ) (words bare : List Bool) → size ≤ length words → at + size ≤ length bare → at + size ≤ place
    → slice_get (with_word size at words bare) place ≡ slice_get bare place
word_after size at place words bare enough there behind =
    let front : length (take at bare ++ take size words) ≡ at + size
    = omega (arith, length-append (take at bare) (take size words), length-take-le at bare (omega arith), length-take-le size words enough) in
    let rest : drop (at + size) (with_word size at words bare) ≡ drop (at + size) bare
    = ap (drop (at + size)) (sym (append_assoc (take at bare) (take size words) (drop (at + size) bare)))
    ∙ drop_at (take at bare ++ take size words) (drop (at + size) bare) (at + size) front in
    let more : place ≡ at + size + (place - (at + size)) = omega arith in
    ap (slice_get (with_word size at words bare)) more
    ∙ sym (slice_get-drop (at + size) (with_word size at words bare) (place - (at + size)))
    ∙ ap (λ (xs : List Bool). slice_get xs (place - (at + size))) rest
    ∙ slice_get-drop (at + size) bare (place - (at + size))
    ∙ ap (slice_get bare) (sym more)

-- the facts about the first codeword, and about those after it
record Step (size at : ℕ) (places : List ℕ) (words bare : List Bool) : Type 0 where
  first : size ≤ length words
  here : at + size ≤ length bare
  enough : size * length places ≤ length (drop size words)
  there : All (λ a. a + size ≤ length (with_word size at words bare)) places

next : (size at : ℕ) (places : List ℕ) (words bare : List Bool) → size * length (at ∷ places) ≤ length words → All (λ a. a + size ≤ length bare) (at ∷ places)
    → Step size at places words bare
next size at places words bare enough there =
    let first : size ≤ length words = omega (arith, mul-suc size (length places)) in
    let here : at + size ≤ length bare = All-head (λ a. a + size ≤ length bare) at places there in
    let P : ℕ → Type 0 = λ n. All (λ a. a + size ≤ n) places in
    record {
      first = first;
      here = here;
      enough = omega (arith, mul-suc size (length places), length-drop size words);
      there = subst P (sym (length-with_word size at words bare first here)) (All-tail (λ a. a + size ≤ length bare) at places there);
    }

-- a bit that is in no codeword stays
pub with_words-outside : (size place : ℕ) (places : List ℕ) (words bare : List Bool) → size * length places ≤ length words → All (λ at. at + size ≤ length bare) places
    → All (λ at. (place < at) ⊎ (at + size ≤ place)) places → slice_get (with_words size places words bare) place ≡ slice_get bare place
unfolding with_words
with_words-outside size place [] words bare enough there outside = refl
with_words-outside size place (at ∷ places) words bare enough there outside =
    let step = next size at places words bare enough there in
    with_words-outside size place places (drop size words) (with_word size at words bare) step.enough step.there
    (All-tail (λ a. (place < a) ⊎ (a + size ≤ place)) at places outside)
    ∙ elim (All-head (λ a. (place < a) ⊎ (a + size ≤ place)) at places outside) [
      | inl less ↦ let before : at ≤ length bare = omega (arith, step.here) in word_before size at place words bare before less
      | inr behind ↦ word_after size at place words bare step.first step.here behind
    ]

-- as many bits as were there
pub length-with_words : (size : ℕ) (places : List ℕ) (words bare : List Bool) → size * length places ≤ length words → All (λ at. at + size ≤ length bare) places
    → length (with_words size places words bare) ≡ length bare
unfolding with_words
length-with_words size [] words bare enough there = refl
length-with_words size (at ∷ places) words bare enough there =
    let step = next size at places words bare enough there in
    length-with_words size places (drop size words) (with_word size at words bare) step.enough step.there ∙ length-with_word size at words bare step.first step.here

-- the bits before all codewords stay
pub take-with_words : (size front : ℕ) (places : List ℕ) (words bare : List Bool) → size * length places ≤ length words → All (λ at. at + size ≤ length bare) places
    → All (λ at. front ≤ at) places → take front (with_words size places words bare) ≡ take front bare
unfolding with_words
take-with_words size front [] words bare enough there behind = refl
take-with_words size front (at ∷ places) words bare enough there behind =
    let step = next size at places words bare enough there in
    let here : front ≤ at = All-head (λ a. front ≤ a) at places behind in
    let inside : front ≤ length (take at bare) = omega (arith, length-take-le at bare (omega (arith, step.here))) in
    take-with_words size front places (drop size words) (with_word size at words bare) step.enough step.there (All-tail (λ a. front ≤ a) at places behind)
    ∙ take-append-le front (take at bare) (take size words ++ drop (at + size) bare) inside
    ∙ take-take front at bare here
