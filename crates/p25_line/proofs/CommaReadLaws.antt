-- A list that is read part by part, as a loop does it: all entries are those read so far and those of the parts that are left.
use Rattle.std.proofs.Common.{◌≡◌, ◌≢◌, ℕ, ◌<◌, ◌≤◌, ◌==◌, false, List, [], ◌∷◌, ◌++◌, length, Option, Some, None, refl, arith, append-nil, append_assoc, length-append}
use Rattle.std.proofs.lemmas.Bool.{cond-true, cond-false, eq-eqb, ne_eqb}
use Rattle.std.specs.{Option.{option_map}, Str.{bytes_eq}}
use Rattle.p25_line.specs.CommaLists.{comma_parts, counted, dash, entries_in, list_in, parts_from, with_entry}
use Rattle.p25_line.proofs.CommaPartLaws.{parts_from-past, parts_from-start, some_parts}

-- as many entries as given, and another number of them
pub counted-same : {X : Type 0} (entries : Option (List X)) (done : List X) (count : ℕ) → entries ≡ Some done → length done ≡ count → counted count entries ≡ Some done
counted-same entries done count found same =
    cc (found, cond-true (length done == count) (Some done) None (eq-eqb (length done) count same))

pub counted-other : {X : Type 0} (entries : Option (List X)) (done : List X) (count : ℕ) → entries ≡ Some done → length done ≢ count → counted count entries ≡ None
counted-other entries done count found other =
    cc (found, cond-false (length done == count) (Some done) None (ne_eqb (length done) count other))

module _ {X : Type 0} (read : List ℕ → Option X) where
  -- the invariant of the loop over parts: all entries are those so far and those of the parts that are left
  abbrev pub EntriesSoFar : List ℕ → ℕ → List X → Type 0
  EntriesSoFar word start done = entries_in read (comma_parts word) ≡ option_map (λ entries. done ++ entries) (entries_in read (parts_from word start))

  pub EntriesSoFar-start : (word : List ℕ) → EntriesSoFar word 0 []
  EntriesSoFar-start word = simp (parts_from-start, same_map)
    where
      same_map : (o : Option (List X)) → option_map (λ entries. [] ++ entries) o ≡ o
      same_map None = refl
      same_map (Some entries) = refl

  one_more : (done : List X) (entry : X) (rest : Option (List X))
      → option_map (λ entries. done ++ entries) (with_entry (Some entry) rest) ≡ option_map (λ entries. (done ++ entry ∷ []) ++ entries) rest
  one_more done entry None = refl
  one_more done entry (Some entries) = simp append_assoc

  pub EntriesSoFar-more : (word part : List ℕ) (start next : ℕ) (done : List X) (entry : X) → EntriesSoFar word start done → parts_from word start ≡ part ∷ parts_from word next
      → read part ≡ Some entry → EntriesSoFar word next (done ++ entry ∷ [])
  EntriesSoFar-more word part start next done entry so_far parts found =
      simp (so_far, parts, found, one_more)

  -- no part is left
  pub EntriesSoFar-end : (word : List ℕ) (start : ℕ) (done : List X) → EntriesSoFar word start done → length word < start → entries_in read (comma_parts word) ≡ Some done
  EntriesSoFar-end word start done so_far past =
      simp (so_far, parts_from-past, append-nil)

  more_parts : (done : List X) (part : Option X) (others : Option (List X)) → counted (length done) (option_map (λ entries. done ++ entries) (with_entry part others)) ≡ None
  more_parts done (Some entry) (Some others) =
      cond-false (length (done ++ entry ∷ others) == length done) (Some (done ++ entry ∷ others)) None
      (ne_eqb (length (done ++ entry ∷ others)) (length done) (λ same. omega (arith, length-append done (entry ∷ others))))
  more_parts done part others = refl

  more_entries : (done : List X) (parts : List (List ℕ)) → 0 < length parts → counted (length done) (option_map (λ entries. done ++ entries) (entries_in read parts)) ≡ None
  more_entries done [] some = absurd (omega arith)
  more_entries done (part ∷ parts) some = more_parts done (read part) (entries_in read parts)

  -- some part is left
  pub EntriesSoFar-over : (word : List ℕ) (start count : ℕ) (done : List X) → EntriesSoFar word start done → start ≤ length word → length done ≡ count
      → counted count (entries_in read (comma_parts word)) ≡ None
  EntriesSoFar-over word start count done so_far within same =
      cc (same, so_far, more_entries done (parts_from word start) (some_parts word start within))

  -- the list of a word that is not `-`
  pub list_in-parts : (word : List ℕ) → bytes_eq word dash ≡ false → list_in read word ≡ entries_in read (comma_parts word)
  list_in-parts word other = cond-false (bytes_eq word dash) (Some []) (entries_in read (comma_parts word)) other
