-- The list kept for the words of a line: the spans of the first 16, and their number.
use Rattle.std.proofs.Common.{◌≡◌, ℕ, zero, suc, ◌<◌, ◌≤◌, List, [], ◌∷◌, length, take, drop, slice_get, Option, Some, None, Result, Ok, Err, inl, inr, refl, sym, ap, ap₂, ◌∙◌, arith, length-take, length-drop}
use Rattle.std.proofs.{lemmas.Bool.{cases_lt}, lemmas.List.{length-map}}
use Rattle.std.specs.Prelude.{◌↔◌, ok_or}
use Rattle.p25_line.specs.{Marks.{Marks}, Words.{AreWordsOf, marked, parts_of, word_at, words_in, words_or_fault, WordsAnswer, WordsFound}, declared.fault.LineFault.{LineFault}}
use Rattle.p25_line.specs.{declared.fault.LineFault.TheVariants.{Form, Long}, declared.word_list.Span.{Span}}
use Rattle.p25_line.proofs.{JoinLaws.{Accepted-words, Known, Known-words}, WordsLaws.{words_or_fault-long, words_or_fault-words}}

-- a line that has words has the octets between its spaces
are-words : (line : List ℕ) (list : Marks) (words : List (List ℕ)) → Known line list words → AreWordsOf line list
are-words line list words known =
    let parts = (Accepted-words line words known.found).parts in
    record {
      found = known.found ∙ ap Ok (sym parts);
      count = known.count ∙ ap length (sym parts);
      spans = known.spans ∙ ap (take 16) (sym parts);
      lies = known.lies;
    }

pub AreWordsOf-answer : (line : List ℕ) (list : Marks) → WordsAnswer line list (Ok tt) → AreWordsOf line list
AreWordsOf-answer line list answer = let words = Known-words line list answer in are-words line list words.0 words.1

-- a line that has none is refused
refused : (line : List ℕ) (list : Marks) (fault : LineFault) (answer : Result (List (List ℕ)) LineFault) → words_or_fault line ≡ answer → WordsFound line list (Err fault) answer
    → Err fault ≡ words_or_fault line
refused line list fault (Ok words) same facts = cc
refused line list fault (Err other) same facts = ap Err (cc facts.0) ∙ sym same

-- too long is a line of more than 8,192 octets, and no other
form-long : (words : Option (List (List ℕ))) → ok_or words Form ≡ Err Long → ⊥
form-long (Some words) same = cc
form-long None same = cc

pub words_or_fault-Long : (line : List ℕ) → (words_or_fault line ≡ Err Long) ↔ (8192 < length line)
words_or_fault-Long line = (
  λ same. elim (cases_lt 8192 (length line)) [
    | inl long ↦ long
    | inr short ↦ absurd (form-long (words_in line) (sym (words_or_fault-words line short) ∙ same))
  ],
  words_or_fault-long line,
)

-- there is a word
pub some_words : (line : List ℕ) (list : Marks) → AreWordsOf line list → 0 < length (parts_of line)
some_words line list are = (Accepted-words line (parts_of line) are.found).some

-- the span of each of the first 16 words is kept
pub spans_kept : (line : List ℕ) (list : Marks) (i : ℕ) → AreWordsOf line list → i < length (parts_of line) → i < 16 → i < length list.spans
spans_kept line list i are held kept = omega (arith, length-map list.spans (word_at line), ap length are.spans, length-take 16 (parts_of line))

slice_get-take : {X : Type 0} (n : ℕ) (xs : List X) (i : ℕ) → i < n → slice_get (take n xs) i ≡ slice_get xs i
slice_get-take zero xs i below = absurd (omega arith)
slice_get-take (suc n) (x ∷ xs) (suc i) below = slice_get-take n xs i (omega arith)
slice_get-take (suc n) xs i below = refl

pub word_kept : (line : List ℕ) (list : Marks) (i : ℕ) (word : List ℕ) → AreWordsOf line list → i < 16 → slice_get (marked line list.spans) i ≡ Some word → slice_get (parts_of line) i ≡ Some word
word_kept line list i word are kept at = cc (slice_get-take 16 (parts_of line) i kept, are.spans, at)

-- a word is no longer than its line
short_word : (line : List ℕ) (spans : List Span) (i : ℕ) (word : List ℕ) → slice_get (marked line spans) i ≡ Some word → length word ≤ length line
short_word line [] i word at = cc
short_word line (span ∷ spans) zero word at =
    let same : word_at line span ≡ word = cc in
    omega (arith, ap length same, length-take span.len (drop span.start line), length-drop span.start line)
short_word line (span ∷ spans) (suc i) word at = short_word line spans i word at

pub word_short : (line : List ℕ) (list : Marks) (i : ℕ) (word : List ℕ) → AreWordsOf line list → slice_get (marked line list.spans) i ≡ Some word → length word ≤ 8192
word_short line list i word are at = omega (arith, short_word line list.spans i word at, (Accepted-words line (parts_of line) are.found).short)

-- ---- the words after the first

pub first-others : {X : Type 0} (words : List X) (first : X) → slice_get words 0 ≡ Some first → words ≡ first ∷ drop 1 words
first-others [] first at = cc
first-others (word ∷ words) first at = let same : word ≡ first = cc in simp same

pub one-other : {X : Type 0} (words : List X) (x : X) → length words ≡ 2 → slice_get words 1 ≡ Some x → drop 1 words ≡ x ∷ []
one-other (first ∷ second ∷ []) x count at = let same : second ≡ x = cc in simp same
one-other words x count at = absurd (omega arith)
