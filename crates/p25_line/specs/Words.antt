-- The words of a line, and their representation by a list of words.
use Rattle.std.specs.Prelude.{◌≡◌, ℕ, ◌+◌, ◌≤◌, ◌==◌, ◌&&◌, nat_lt, nat_le, Bool, if◌then◌else◌, List, [], length, take, drop, map, All, Option, Some, None, ok_or, Result, Ok, Err}
use Rattle.std.specs.List.{slice_split, list_all}
use Rattle.p25_line.specs.{Marks.{Marks}, declared.fault.LineFault.{LineFault}, declared.fault.LineFault.TheVariants.{Long, Form}}
use Rattle.p25_line.specs.declared.word_list.Span.{Span}

-- an octet that a word may contain: 21 to 7E hex
abbrev pub is_printed : ℕ → Bool
is_printed octet = nat_le 33 octet && nat_le octet 126

-- a word has one or more such octets
abbrev pub is_word : List ℕ → Bool
is_word word = nat_lt 0 (length word) && list_all is_printed word

-- the parts of a line between its spaces
abbrev pub parts_of : List ℕ → List (List ℕ)
parts_of line = slice_split (λ octet. octet == 32) line

-- the words of a line, if it is words with single spaces between them
unfoldable pub words_in : List ℕ → Option (List (List ℕ))
words_in line = if list_all is_word (parts_of line) then Some (parts_of line) else None

-- the words of a line, or the reason for refusing it
unfoldable pub words_or_fault : List ℕ → Result (List (List ℕ)) LineFault
words_or_fault line = if nat_lt 8192 (length line) then Err Long else ok_or (words_in line) Form

-- a span lies within a line
abbrev pub LiesIn : List ℕ → Span → Type 0
LiesIn line span = span.start + span.len ≤ length line

-- the octets of a line at a span
abbrev pub word_at : List ℕ → Span → List ℕ
word_at line span = take span.len (drop span.start line)

-- the octets of a line at each of some spans
abbrev pub marked : List ℕ → List Span → List (List ℕ)
marked line spans = map (word_at line) spans

-- the result and the list kept for the words of a line: their number, and the spans of the first 16. If there is a fault, it is returned and nothing
-- is kept
abbrev pub WordsFound : List ℕ → Marks → Result (Unit {0}) LineFault → Result (List (List ℕ)) LineFault → Type 0
WordsFound line list result (Ok words) =
    (result ≡ Ok tt) × (list.count ≡ length words) × (marked line list.spans ≡ take 16 words) × All (LiesIn line) list.spans
WordsFound line list result (Err fault) = (result ≡ Err fault) × (list.count ≡ 0) × (list.spans ≡ [])

-- the result for a line
abbrev pub WordsAnswer : List ℕ → Marks → Result (Unit {0}) LineFault → Type 0
WordsAnswer line list result = WordsFound line list result (words_or_fault line)

-- the list kept for a line that has words: they are the parts between its spaces
pub record AreWordsOf (line : List ℕ) (list : Marks) : Type 0 where
  pub found : words_or_fault line ≡ Ok (parts_of line)
  pub count : list.count ≡ length (parts_of line)
  pub spans : marked line list.spans ≡ take 16 (parts_of line)
  pub lies : All (LiesIn line) list.spans
