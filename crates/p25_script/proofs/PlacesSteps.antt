-- Positions that are read part by part in a loop. Those read so far are a beginning of all that the word lists.
use Rattle.std.proofs.Common.{◌≡◌, ℕ, ◌<◌, true, false, List, [], ◌∷◌, ◌++◌, length, Option, Some, None, inl, inr, refl, sym, ap, ◌∙◌, arith, append_assoc}
use Rattle.std.proofs.lemmas.Bool.{cases_Bool, cond-true, cond-false}
use Rattle.std.specs.{Option.{option_map}, Str.{bytes_eq}}
use Rattle.p25_line.specs.CommaLists.{dash, entries_in, parts_from}
use Rattle.p25_script.specs.Values.{is_ascending, place_in, places_in, where_ascending}
use Rattle.p25_line.proofs.CommaReadLaws.{EntriesSoFar, EntriesSoFar-end, EntriesSoFar-more, list_in-parts}
use Rattle.p25_script.proofs.PlacesLaws.{is_ascending-more, next_place}

-- whatever follows a position that is too low, the positions do not ascend
not_ascending : (done : List ℕ) (place : ℕ) (rest : Option (List ℕ)) → place < next_place done → where_ascending (option_map (λ items. (done ++ place ∷ []) ++ items) rest) ≡ None
not_ascending done place None low = refl
not_ascending done place (Some items) low =
    let all = (done ++ place ∷ []) ++ items in
    elim (cases_Bool (is_ascending all)) [
      | inl passed ↦
          let high = is_ascending-more done place items (ap is_ascending (sym (append_assoc done (place ∷ []) items)) ∙ passed) in
          absurd (omega (arith, low, high))
      | inr failed ↦ cond-false (is_ascending all) (Some all) None failed
    ]

pub places_in-low : (word part : List ℕ) (start next : ℕ) (done : List ℕ) (place : ℕ) → bytes_eq word dash ≡ false → EntriesSoFar place_in word start done
    → parts_from word start ≡ part ∷ parts_from word next → place_in part ≡ Some place → place < next_place done → places_in word ≡ None
places_in-low word part start next done place other so_far parts found low =
    ap where_ascending (list_in-parts place_in word other ∙ EntriesSoFar-more place_in word part start next done place so_far parts found)
    ∙ not_ascending done place (entries_in place_in (parts_from word next)) low

-- if no part is left, the positions are those that were read
pub places_in-end : (word : List ℕ) (start : ℕ) (done : List ℕ) → bytes_eq word dash ≡ false → EntriesSoFar place_in word start done → length word < start
    → is_ascending done ≡ true → places_in word ≡ Some done
places_in-end word start done other so_far past ascending =
    ap where_ascending (list_in-parts place_in word other ∙ EntriesSoFar-end place_in word start done so_far past)
    ∙ cond-true (is_ascending done) (Some done) None ascending
