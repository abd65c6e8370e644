-- The relation of each result of the reader of lines to the definition.
use Rattle.std.proofs.Common.{◌≡◌, ℕ, suc, ◌+◌, ◌<◌, List, [], ◌∷◌, ◌++◌, length, drop, slice_get, get_or, Option, Some, None, Err, refl, sym, ap, ap₂, ◌∙◌, arith, append_assoc}
use Rattle.std.proofs.{lemmas.List.{drop_more}, lemmas.Option.{slice_get-get_or}}
use Rattle.std.specs.{Prelude.{ok_or}, Option.{option_map, option_and_then}}
use Rattle.p25_line.specs.{declared.fault.LineFault.TheVariants.{Key, Kind as WrongKind}, LineReadings.{found_read, named_or_fault}, CommaLists.{with_entry}}
use Rattle.p25_line.proofs.LineWordsLaws.{first-others}
use Rattle.p25_text.specs.{Grammar.{read_kind, read_values, read_words, values_behind, behind}, Names.{kind_named, keys_of, key_text}, declared.names.UnitKey.{UnitKey}}
use Rattle.p25_text.specs.declared.names.UnitKind.{UnitKind}
use Rattle.p25_text.proofs.WordLaws.{values_behind-other}

-- the first word names no type
pub wrong_kind : (words : List (List ℕ)) (first : List ℕ) → slice_get words 0 ≡ Some first → kind_named first ≡ None → read_words words ≡ Err WrongKind
wrong_kind words first at none = ap read_words (first-others words first at) ∙ ap (λ kind. named_or_fault read_kind kind (drop 1 words)) none

-- or one
pub right_kind : (words : List (List ℕ)) (first : List ℕ) (kind : UnitKind) → slice_get words 0 ≡ Some first → kind_named first ≡ Some kind
    → read_words words ≡ read_kind kind (drop 1 words)
right_kind words first kind at named = ap read_words (first-others words first at) ∙ ap (λ kind. named_or_fault read_kind kind (drop 1 words)) named

-- with a number of words other than that of the keys and one, the fault is a wrong key
pub wrong_count : (words : List (List ℕ)) (first : List ℕ) (kind : UnitKind) → slice_get words 0 ≡ Some first → kind_named first ≡ Some kind → (length words ≡ length (keys_of kind) + 1 → ⊥)
    → read_words words ≡ Err Key
wrong_count words first kind at named other =
    let count : length words ≡ suc (length (drop 1 words)) = ap length (first-others words first at) in
    right_kind words first kind at named ∙ ap (λ values. found_read (read_values kind) (ok_or values Key))
    (values_behind-other (keys_of kind) (drop 1 words) (λ same. other (omega (arith, count, same))))

-- one key and one word more
pub values-more : (keys : List UnitKey) (words : List (List ℕ)) (i : ℕ) (d : UnitKey) (first : Option (List ℕ)) → i < length keys → i + 1 < length words
    → first ≡ option_and_then (behind (key_text (get_or keys i d))) (slice_get words (i + 1))
    → values_behind (drop i keys) (drop (i + 1) words) ≡ with_entry first (values_behind (drop (i + 1) keys) (drop (i + 1 + 1) words))
values-more keys words i d first in_keys in_words same =
    let read : slice_get words (i + 1) ≡ Some (get_or words (i + 1) []) = slice_get-get_or words (i + 1) [] in_words in
    ap₂ values_behind (drop_more keys i d in_keys) (drop_more words (i + 1) [] in_words)
    ∙ ap (λ f. with_entry f (values_behind (drop (i + 1) keys) (drop (i + 1 + 1) words))) (sym (same ∙ ap (option_and_then (behind (key_text (get_or keys i d)))) read))

-- the values so far, with one more
pub so_far-more : (done : List (List ℕ)) (value : List ℕ) (rest : Option (List (List ℕ)))
    → option_map (λ values. done ++ values) (with_entry (Some value) rest) ≡ option_map (λ values. (done ++ value ∷ []) ++ values) rest
so_far-more done value None = refl
so_far-more done value (Some values) = ap Some (sym (append_assoc done (value ∷ []) values))

-- the invariant of the loop over keys: all values are those so far and those of the keys and words that are left
abbrev pub SoFar : List UnitKey → List (List ℕ) → ℕ → List (List ℕ) → Type 0
SoFar keys words i done = values_behind keys (drop 1 words) ≡ option_map (λ values. done ++ values) (values_behind (drop i keys) (drop (i + 1) words))

pub SoFar-more : (keys : List UnitKey) (words : List (List ℕ)) (i : ℕ) (d : UnitKey) (done : List (List ℕ)) (value : List ℕ) → SoFar keys words i done → i < length keys → i + 1 < length words
    → Some value ≡ option_and_then (behind (key_text (get_or keys i d))) (slice_get words (i + 1)) → SoFar keys words (i + 1) (done ++ value ∷ [])
SoFar-more keys words i d done value so_far in_keys in_words found =
    so_far ∙ ap (option_map (λ values. done ++ values)) (values-more keys words i d (Some value) in_keys in_words found)
    ∙ so_far-more done value (values_behind (drop (i + 1) keys) (drop (i + 1 + 1) words))

pub SoFar-none : (keys : List UnitKey) (words : List (List ℕ)) (i : ℕ) (d : UnitKey) (done : List (List ℕ)) → SoFar keys words i done → i < length keys → i + 1 < length words
    → None ≡ option_and_then (behind (key_text (get_or keys i d))) (slice_get words (i + 1)) → None ≡ values_behind keys (drop 1 words)
SoFar-none keys words i d done so_far in_keys in_words other =
    sym (so_far ∙ ap (option_map (λ values. done ++ values)) (values-more keys words i d None in_keys in_words other))
