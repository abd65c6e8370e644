-- Reading and writing a line are inverse if they are for its words. For every form of line.
use Rattle.std.proofs.Common.{◌≡◌, ℕ, ◌<◌, ◌≤◌, true, List, length, Option, Some, None, Result, Ok, Err, refl, ap, ◌∙◌, sym}
use Rattle.std.specs.{Prelude.{IfOk, ok_or}, List.{join_with_byte, list_all}}
use Rattle.p25_line.specs.{LineReadings.{found_read, keyed_or_fault, line_read, named_or_fault, value_or_fault}, Words.{is_word, words_or_fault}, declared.fault.LineFault.{LineFault}}
use Rattle.p25_line.specs.declared.fault.LineFault.TheVariants.{Long}
use Rattle.p25_line.proofs.{JoinLaws.{Accepted-words, words_or_fault-join}, WordsLaws.{words_or_fault-long}}

-- a line that is too long is refused as such
pub line_read-long : {X : Type 0} (read : List (List ℕ) → Result X LineFault) (line : List ℕ) → 8192 < length line → line_read read line ≡ Err Long
unfolding line_read
line_read-long read line long = simp words_or_fault-long

-- no word is refused as a line that is too long
pub value-not_long : {V X : Type 0} (make : V → X) (value : Option V) → value_or_fault make value ≡ Err Long → ⊥
value-not_long make (Some value) e = cc
value-not_long make None e = cc

pub keyed-not_long : {K V X : Type 0} (make : K → V → X) (key : Option K) (value : Option V) → keyed_or_fault make key value ≡ Err Long → ⊥
keyed-not_long make (Some key) value e = value-not_long (make key) value e
keyed-not_long make None value e = cc

pub or-not_long : {X : Type 0} (found : Option X) (fault : LineFault) → (fault ≡ Long → ⊥) → ok_or found fault ≡ Err Long → ⊥
or-not_long None fault other e = other (cc e)
or-not_long (Some value) fault other e = cc

pub found-not_long : {X : Type 0} (read : List (List ℕ) → Result X LineFault) → ((words : List (List ℕ)) → read words ≡ Err Long → ⊥) → (found : Result (List (List ℕ)) LineFault)
    → (found ≡ Err Long → ⊥) → found_read read found ≡ Err Long → ⊥
found-not_long read never (Ok words) other e = never words e
found-not_long read never (Err fault) other e = other (ap Err (cc e))

pub named-not_long : {K X : Type 0} (read : K → List (List ℕ) → Result X LineFault) (others : List (List ℕ)) → ((kind : K) → read kind others ≡ Err Long → ⊥) → (kind : Option K)
    → named_or_fault read kind others ≡ Err Long → ⊥
named-not_long read others never (Some kind) e = never kind e
named-not_long read others never None e = cc

-- the decoding of a line is that of its words, and a line without words is refused
pub line_read-found : {X : Type 0} (read : List (List ℕ) → Result X LineFault) (line : List ℕ) (words : List (List ℕ)) → words_or_fault line ≡ Ok words → line_read read line ≡ read words
unfolding line_read
line_read-found read line words found = simp found

pub line_read-refused : {X : Type 0} (read : List (List ℕ) → Result X LineFault) (line : List ℕ) (fault : LineFault) → words_or_fault line ≡ Err fault → line_read read line ≡ Err fault
unfolding line_read
line_read-refused read line fault refused = simp refused

-- the laws of values, their words, and the decoding of words: each is the inverse of the other for values that fit
pub record WordLaws {X : Type 0} (words : X → List (List ℕ)) (read : List (List ℕ) → Result X LineFault) (Fits : X → Type 0) : Type 0 where
  pub some : (value : X) → 0 < length (words value)
  pub are_words : (value : X) → Fits value → list_all is_word (words value) ≡ true
  pub back : (value : X) → Fits value → read (words value) ≡ Ok value
  pub again : (others : List (List ℕ)) (value : X) → read others ≡ Ok value → (words value ≡ others) × Fits value

-- the line of a value decodes to it, if the line is not too long
pub line_read-words : {X : Type 0} {words : X → List (List ℕ)} {read : List (List ℕ) → Result X LineFault} {Fits : X → Type 0} → WordLaws words read Fits → (value : X) → Fits value
    → length (join_with_byte 32 (words value)) ≤ 8192 → line_read read (join_with_byte 32 (words value)) ≡ Ok value
unfolding line_read
line_read-words {words = words} {read = read} laws value fits short =
    cc (words_or_fault-join (words value) (laws.some value) (laws.are_words value fits) short, laws.back value fits)

-- the facts about a line that decodes to a value
pub record IsLineOf {X : Type 0} (words : X → List (List ℕ)) (Fits : X → Type 0) (line : List ℕ) (value : X) : Type 0 where
  pub text : join_with_byte 32 (words value) ≡ line
  pub fits : Fits value
  pub short : length line ≤ 8192

from_found : {X : Type 0} {words : X → List (List ℕ)} {read : List (List ℕ) → Result X LineFault} {Fits : X → Type 0}
    → WordLaws words read Fits → (line : List ℕ) (found : Result (List (List ℕ)) LineFault) (value : X)
    → words_or_fault line ≡ found → found_read read found ≡ Ok value → IsLineOf words Fits line value
from_found laws line (Err fault) value same found = cc
from_found laws line (Ok others) value same found =
    let is = laws.again others value found in
    let accepted = Accepted-words line others same in
    record { text = ap (join_with_byte 32) is.0 ∙ accepted.join; fits = is.1; short = accepted.short }

pub words-line_read : {X : Type 0} {words : X → List (List ℕ)} {read : List (List ℕ) → Result X LineFault} {Fits : X → Type 0} → WordLaws words read Fits → (line : List ℕ) (value : X)
    → line_read read line ≡ Ok value → IsLineOf words Fits line value
unfolding line_read
words-line_read laws line value found = from_found laws line (words_or_fault line) value refl found

-- as a reader returns it
pub line_read-facts : {X : Type 0} {words : X → List (List ℕ)} {read : List (List ℕ) → Result X LineFault} {Fits : X → Type 0}
    → WordLaws words read Fits → (line : List ℕ) (result : Result X LineFault)
    → result ≡ line_read read line → (IfOk result (λ value. join_with_byte 32 (words value) ≡ line)) × (IfOk result Fits)
line_read-facts laws line (Err fault) same = (tt, tt)
line_read-facts laws line (Ok value) same = let is = words-line_read laws line value (sym same) in (is.text, is.fits)
