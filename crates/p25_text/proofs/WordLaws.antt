-- Keys with their values: joined and split, and that they are words of a line that is not too long.
use Rattle.std.proofs.Common.{◌≡◌, ℕ, suc, ◌+◌, ◌*◌, ◌<◌, ◌≤◌, ◌&&◌, true, List, [], ◌∷◌, ◌++◌, length, drop, Option, Some, None, inl, inr, refl, sym, ap, ap₂, ◌∙◌, arith, length-append}
use Rattle.std.proofs.{lemmas.Bool.{and_parts, cases_Bool, cond-true, cond-false, lt-ltb}, lemmas.Bool.Decides.{Decides-eqb}, lemmas.List.{drop_at}, lemmas.List.Folds.{list_all-append}}
use Rattle.std.proofs.lemmas.Slice.Eq.{starts_is}
use Rattle.std.specs.{Prelude.{◌==◌, nat_lt}, List.{join_with_byte, list_all, starts_with}}
use Rattle.p25_line.specs.{Words.{is_printed, is_word}, CommaLists.{with_entry}}
use Rattle.p25_text.specs.{Grammar.{behind, keyed, values_behind}, Names.{key_text}, declared.names.UnitKey.{UnitKey}, declared.names.UnitKey.TheVariants.{Nac}}

-- the octets after a key
pub behind-append : (key value : List ℕ) → behind key (key ++ value) ≡ Some value
behind-append key value =
    let starts = (starts_is {E = ◌==◌} Decides-eqb (key ++ value) key (starts_with ◌==◌ (key ++ value) key) refl).1 value refl in
    cond-true (starts_with ◌==◌ (key ++ value) key) (Some (drop (length key) (key ++ value))) None starts ∙ ap Some (drop_at key value (length key) refl)

pub append-behind : (key word value : List ℕ) → behind key word ≡ Some value → key ++ value ≡ word
append-behind key word value found =
    elim (cases_Bool (starts_with ◌==◌ word key)) [
      | inl starts ↦
          let whole = (starts_is {E = ◌==◌} Decides-eqb word key (starts_with ◌==◌ word key) refl).0 starts in
          let read = cond-true (starts_with ◌==◌ word key) (Some (drop (length key) word)) None starts in
          let same : drop (length key) word ≡ value = cc in
          ap (λ v. key ++ v) (sym same) ∙ sym whole
      | inr other ↦ let read = cond-false (starts_with ◌==◌ word key) (Some (drop (length key) word)) None other in cc
    ]

-- the values of words that were made of keys and values
pub values_behind-keyed : (keys : List UnitKey) (values : List (List ℕ)) → length keys ≡ length values → values_behind keys (keyed keys values) ≡ Some values
values_behind-keyed [] [] same = refl
values_behind-keyed (key ∷ keys) (value ∷ values) same = ap₂ with_entry (behind-append (key_text key) value) (values_behind-keyed keys values (omega arith))
values_behind-keyed keys values same = absurd (omega arith)

keyed-more : (key : UnitKey) (keys : List UnitKey) (word : List ℕ) (words values : List (List ℕ)) (first : Option (List ℕ)) (others : Option (List (List ℕ)))
    → behind (key_text key) word ≡ first → values_behind keys words ≡ others → with_entry first others ≡ Some values
    → ((rest : List (List ℕ)) → values_behind keys words ≡ Some rest → (keyed keys rest ≡ words) × (length rest ≡ length keys))
    → (keyed (key ∷ keys) values ≡ word ∷ words) × (length values ≡ suc (length keys))
keyed-more key keys word words values (Some value) None found rest all step = cc all
keyed-more key keys word words (first ∷ values) (Some value) (Some others) found rest all step =
    let same_value : value ≡ first = cc all in
    let same_others : others ≡ values = cc all in
    let facts = step values (rest ∙ ap Some same_others) in
    (ap₂ ◌∷◌ (append-behind (key_text key) word first (found ∙ ap Some same_value)) facts.0, ap suc facts.1)
keyed-more key keys word words values first others found rest all step = cc all

-- words whose values were found are made of keys and values
pub keyed-values_behind : (keys : List UnitKey) (words values : List (List ℕ)) → values_behind keys words ≡ Some values → (keyed keys values ≡ words) × (length values ≡ length keys)
keyed-values_behind [] [] [] found = (refl, refl)
keyed-values_behind (key ∷ keys) (word ∷ words) values found =
    keyed-more key keys word words values (behind (key_text key) word) (values_behind keys words) refl refl found (λ rest h. keyed-values_behind keys words rest h)
keyed-values_behind keys words values found = cc found

with_entry-none : (value : Option (List ℕ)) → with_entry value None ≡ None
with_entry-none None = refl
with_entry-none (Some value) = refl

-- another number of words than of keys has no values
pub values_behind-other : (keys : List UnitKey) (words : List (List ℕ)) → (length words ≡ length keys → ⊥) → values_behind keys words ≡ None
values_behind-other [] [] other = absurd (other refl)
values_behind-other (key ∷ keys) (word ∷ words) other =
    ap (with_entry (behind (key_text key) word)) (values_behind-other keys words (λ same. other (ap suc same))) ∙ with_entry-none (behind (key_text key) word)
values_behind-other keys words other = refl

-- a word stays a word with more printed octets after it
word-more : (word value : List ℕ) → is_word word ≡ true → list_all is_printed value ≡ true → is_word (word ++ value) ≡ true
word-more [] value some printed = cc some
word-more (octet ∷ word) value some printed =
    let parts = and_parts (nat_lt 0 (suc (length word))) (list_all is_printed (octet ∷ word)) some in
    let long : 0 < suc (length (word ++ value)) = omega arith in
    ap₂ ◌&&◌ (lt-ltb 0 (suc (length (word ++ value))) long) (list_all-append is_printed (octet ∷ word) value ∙ ap₂ ◌&&◌ parts.1 printed)

-- each key is a word of at most seven octets
pub key-word : (key : UnitKey) → is_word (key_text key) ≡ true
key-word Nac = refl
key-word key = refl

key-short : (key : UnitKey) → length (key_text key) ≤ 7
key-short Nac = omega arith
key-short key = omega arith

-- keys with printed values are words
pub keyed-words : (keys : List UnitKey) (values : List (List ℕ)) → list_all (list_all is_printed) values ≡ true → list_all is_word (keyed keys values) ≡ true
keyed-words (key ∷ keys) (value ∷ values) printed =
    let parts = and_parts (list_all is_printed value) (list_all (list_all is_printed) values) printed in
    ap₂ ◌&&◌ (word-more (key_text key) value (key-word key) parts.0) (keyed-words keys values parts.1)
keyed-words keys values printed = refl

-- the number of octets of words, with one more for each
abbrev pub size_of : List (List ℕ) → ℕ
size_of [] = 0
size_of (word ∷ words) = suc (length word) + size_of words

pub length-join : (separator : ℕ) (words : List (List ℕ)) → length (join_with_byte separator words) ≤ size_of words
length-join separator (word ∷ next ∷ words) = omega (arith, length-append word (separator ∷ join_with_byte separator (next ∷ words)), length-join separator (next ∷ words))
length-join separator words = omega arith

pub size_of-keyed : (keys : List UnitKey) (values : List (List ℕ)) → size_of (keyed keys values) ≤ 8 * length keys + size_of values
size_of-keyed (key ∷ keys) (value ∷ values) = omega (arith, length-append (key_text key) value, key-short key, size_of-keyed keys values)
size_of-keyed keys values = omega arith
