-- One more status symbol in the loop of the texts of items.
use Rattle.std.proofs.{Common.{◌≡◌, ℕ, ◌+◌, List, [], ◌∷◌, ◌++◌, take, map, slice_get, Some, refl, sym, ap, ap₂, ◌∙◌, append_assoc}, lemmas.List.{map_push}}
use Rattle.p25_status.specs.{Status.{status_number}, declared.symbols.Status.{Status}}
use Rattle.p25_text.specs.ItemTexts.{status_digits}
use Rattle.p25_line.proofs.CommaWriteLaws.{take-read}

pub status_digits-none : (statuses : List Status) → status_digits (take 0 statuses) ≡ []
unfolding status_digits
status_digits-none statuses = refl

pub status_digits-more : (statuses : List Status) (i : ℕ) (status : Status) → slice_get statuses i ≡ Some status
    → status_digits (take (i + 1) statuses) ≡ status_digits (take i statuses) ++ (48 + status_number status) ∷ []
unfolding status_digits
status_digits-more statuses i status read =
    ap (map (λ s. 48 + status_number s)) (take-read statuses i status read) ∙ map_push (λ s. 48 + status_number s) (take i statuses) status

-- the digit of the next status symbol after a text
pub next-status : (statuses : List Status) (i : ℕ) (status : Status) (start out new : List ℕ) (number : ℕ) → slice_get statuses i ≡ Some status
    → out ≡ start ++ status_digits (take i statuses) → number ≡ status_number status → new ≡ out ++ (48 + number) ∷ [] → new ≡ start ++ status_digits (take (i + 1) statuses)
next-status statuses i status start out new number read before same after =
    after ∙ ap₂ (λ l n. l ++ (48 + n) ∷ []) before same
    ∙ append_assoc start (status_digits (take i statuses)) ((48 + status_number status) ∷ [])
    ∙ ap (λ l. start ++ l) (sym (status_digits-more statuses i status read))
