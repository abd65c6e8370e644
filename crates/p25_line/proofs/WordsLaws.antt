-- Laws of the words of a line. Splitting is followed octet by octet: a line has allowed octets alone if each of its parts is printable.
use Rattle.std.proofs.{Common.{◌≡◌, ℕ, ◌<◌, ◌≤◌, ◌==◌, ◌&&◌, ◌||◌, Bool, true, false, cond, List, [], ◌∷◌, length, Some, None, Err, inl, inr, refl, sym, ap, ◌∙◌, arith}, Math.Bool.{and_assoc}}
use Rattle.std.proofs.{lemmas.Bool.{and_parts, cases_Bool, cond-true, cond-false}, lemmas.List.Elements.{All-nil, All-cons}, lemmas.List.Splits.{length-slice_split}}
use Rattle.std.proofs.lemmas.Slice.Eq.{bytes_eq-Decides}
use Rattle.std.specs.{Prelude.{nat_lt, ok_or}, List.{find, onto_first, list_all, All}, Str.{bytes_eq}}
use Rattle.p25_line.specs.{Values.{is_lower_digit}, Words.{is_printed, is_word, parts_of, words_in, words_or_fault}, declared.fault.LineFault.TheVariants.{Form, Long}}

-- an octet that may be in a line of words
abbrev pub is_allowed : ℕ → Bool
is_allowed octet = (octet == 32) || is_printed octet

-- a printed octet is no space
pub printed-space : (octet : ℕ) → is_printed octet ≡ true → (octet == 32) ≡ false
printed-space octet printed = grind arith

-- printed octets have no space among them
pub printed-spaces : (octets : List ℕ) → list_all is_printed octets ≡ true → All (λ octet. (octet == 32) ≡ false) octets
printed-spaces [] printed = All-nil (λ octet. (octet == 32) ≡ false)
printed-spaces (octet ∷ octets) printed =
    let parts = and_parts (is_printed octet) (list_all is_printed octets) printed in
    All-cons (λ x. (x == 32) ≡ false) octet octets (printed-space octet parts.0) (printed-spaces octets parts.1)

-- one more octet, by whether it is a space
allowed_more : (octet : ℕ) (parts : List (List ℕ)) (rest space : Bool) → list_all (list_all is_printed) parts ≡ rest → 0 < length parts
    → list_all (list_all is_printed) (cond space ([] ∷ parts) (onto_first octet parts)) ≡ ((space || is_printed octet) && rest)
allowed_more octet parts rest true same some = same
allowed_more octet [] rest false same some = absurd (omega arith)
allowed_more octet (part ∷ parts) rest false same some =
    simp (and_assoc, same)

-- each part is printed exactly if each octet is allowed
pub printed-parts : (line : List ℕ) → list_all (list_all is_printed) (parts_of line) ≡ list_all is_allowed line
printed-parts [] = refl
printed-parts (octet ∷ line) =
    allowed_more octet (parts_of line) (list_all is_allowed line) (octet == 32) (printed-parts line) (omega (arith, length-slice_split (λ x. x == 32) line))

pub words-printed : (words : List (List ℕ)) → list_all is_word words ≡ true → list_all (list_all is_printed) words ≡ true
words-printed [] all = refl
words-printed (word ∷ words) all =
    let parts = and_parts (is_word word) (list_all is_word words) all in
    let printed = and_parts (nat_lt 0 (length word)) (list_all is_printed word) parts.0 in
    cc (printed.1, words-printed words parts.1)

-- if each part is a word, the parts are the words
pub words_in-words : (line : List ℕ) → list_all is_word (parts_of line) ≡ true → words_in line ≡ Some (parts_of line)
unfolding words_in
words_in-words line all = cond-true (list_all is_word (parts_of line)) (Some (parts_of line)) None all

-- if some part is no word, there are no words
pub words_in-none : (line : List ℕ) → list_all is_word (parts_of line) ≡ false → words_in line ≡ None
unfolding words_in
words_in-none line other = cond-false (list_all is_word (parts_of line)) (Some (parts_of line)) None other

-- the results for a line, by its length and its words
pub words_or_fault-long : (line : List ℕ) → 8192 < length line → words_or_fault line ≡ Err Long
unfolding words_or_fault
words_or_fault-long line long = grind arith

pub words_or_fault-words : (line : List ℕ) → length line ≤ 8192 → words_or_fault line ≡ ok_or (words_in line) Form
unfolding words_or_fault
words_or_fault-words line short = grind arith

-- an element that a search finds passes its test
pub find-passes : {X : Type 0} (test : X → Bool) (xs : List X) (x : X) → find test xs ≡ Some x → test x ≡ true
find-passes test [] x found = cc
find-passes test (y ∷ xs) x found =
    elim (cases_Bool (test y)) [
      | inl passed ↦
          ap test (sym cc) ∙ passed
      | inr failed ↦ find-passes test xs x (sym (cond-false (test y) (Some y) (find test xs) failed) ∙ found)
    ]

digit-printed : (digit : ℕ) → is_lower_digit digit ≡ true → is_printed digit ≡ true
digit-printed digit lower = grind arith

-- a list that passes one test, element by element, passes another that follows from it
pub all-also : {X : Type 0} (first second : X → Bool) → ((x : X) → first x ≡ true → second x ≡ true) → (xs : List X) → list_all first xs ≡ true → list_all second xs ≡ true
all-also first second also [] all = refl
all-also first second also (x ∷ xs) all =
    let parts = and_parts (first x) (list_all first xs) all in
    cc (also x parts.0, all-also first second also xs parts.1)

pub digits-printed : (digits : List ℕ) → list_all is_lower_digit digits ≡ true → list_all is_printed digits ≡ true
digits-printed digits lower = all-also is_lower_digit is_printed digit-printed digits lower

-- the value of a list that is found by its word has that word
pub named-word : {X : Type 0} (word_of : X → List ℕ) (xs : List X) (word : List ℕ) (x : X) → find (λ y. bytes_eq word (word_of y)) xs ≡ Some x → word_of x ≡ word
named-word word_of xs word x found = sym ((bytes_eq-Decides word (word_of x)).0 (find-passes (λ y. bytes_eq word (word_of y)) xs x found))
