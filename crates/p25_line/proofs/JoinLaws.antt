-- Splitting inverts joining: parts without the octet between them are read back from their join, and a line of words is the join of its words.
use Rattle.std.proofs.Common.{◌≡◌, ℕ, ◌<◌, ◌≤◌, ◌==◌, Bool, true, false, List, [], ◌∷◌, length, take, Option, Result, Ok, Err, inl, inr, refl, sym, ap, ◌∙◌, arith}
use Rattle.std.proofs.{lemmas.Bool.{and_parts, cases_Bool, cases_lt, eq-eqb}, lemmas.List.Splits.{slice_split_none, slice_split_at, length-slice_split, join_with_byte-slice_split}}
use Rattle.std.specs.{Prelude.{nat_lt, ok_or}, List.{slice_split, join_with_byte, list_all, All}}
use Rattle.p25_line.specs.{Words.{is_printed, is_word, parts_of, words_in, words_or_fault, LiesIn, marked, WordsFound, WordsAnswer}, Marks.{Marks}, declared.fault.LineFault.{LineFault}}
use Rattle.p25_line.specs.declared.fault.LineFault.TheVariants.{Form}
use Rattle.p25_line.proofs.WordsLaws.{printed-spaces, words_in-words, words_in-none, words_or_fault-long, words_or_fault-words}

-- an octet is not among others
abbrev pub Lacks : ℕ → List ℕ → Type 0
Lacks separator octets = All (λ octet. (octet == separator) ≡ false) octets

-- parts that pass a test, which no part with the separator passes, are the split of their join
pub split-join : (separator : ℕ) (test : List ℕ → Bool) → ((part : List ℕ) → test part ≡ true → Lacks separator part) → (parts : List (List ℕ)) → 0 < length parts
    → list_all test parts ≡ true → slice_split (λ octet. octet == separator) (join_with_byte separator parts) ≡ parts
split-join separator test lacks [] some all = absurd (omega arith)
split-join separator test lacks (part ∷ []) some all =
    let one = and_parts (test part) true all in
    slice_split_none (λ octet. octet == separator) part (lacks part one.0)
split-join separator test lacks (part ∷ next ∷ parts) some all =
    let both = and_parts (test part) (list_all test (next ∷ parts)) all in
    cc (
      slice_split_at (λ octet. octet == separator) part separator (join_with_byte separator (next ∷ parts)) (lacks part both.0) (eq-eqb separator separator refl),
      split-join separator test lacks (next ∷ parts) (omega arith) both.1,
    )

-- a word has no space
word-spaces : (word : List ℕ) → is_word word ≡ true → Lacks 32 word
word-spaces word all = let parts = and_parts (nat_lt 0 (length word)) (list_all is_printed word) all in printed-spaces word parts.1

-- words are read back from their line
pub words_or_fault-join : (words : List (List ℕ)) → 0 < length words → list_all is_word words ≡ true → length (join_with_byte 32 words) ≤ 8192
    → words_or_fault (join_with_byte 32 words) ≡ Ok words
words_or_fault-join words some all short =
    let line = join_with_byte 32 words in
    let parts : parts_of line ≡ words = split-join 32 is_word word-spaces words some all in
    cc (words_or_fault-words line short, words_in-words line (ap (list_all is_word) parts ∙ all), parts)

-- the facts about an accepted line
pub record Accepted (line : List ℕ) (words : List (List ℕ)) : Type 0 where
  pub short : length line ≤ 8192
  pub all : list_all is_word words ≡ true
  pub some : 0 < length words
  pub join : join_with_byte 32 words ≡ line
  pub parts : parts_of line ≡ words

accepted-words : (line : List ℕ) (words : List (List ℕ)) → length line ≤ 8192 → ok_or (words_in line) Form ≡ Ok words → Accepted line words
accepted-words line words short found =
    elim (cases_Bool (list_all is_word (parts_of line))) [
      | inl all ↦
          let same : parts_of line ≡ words = let known = ap (λ (words : Option (List (List ℕ))). ok_or words Form) (words_in-words line all) in cc in
          record {
            short = short;
            all = ap (list_all is_word) (sym same) ∙ all;
            some = omega (arith, ap length same, length-slice_split (λ octet. octet == 32) line);
            join = ap (join_with_byte 32) (sym same) ∙ join_with_byte-slice_split 32 line;
            parts = same;
          }
      | inr other ↦ let known = ap (λ (words : Option (List (List ℕ))). ok_or words Form) (words_in-none line other) in cc
    ]

pub Accepted-words : (line : List ℕ) (words : List (List ℕ)) → words_or_fault line ≡ Ok words → Accepted line words
Accepted-words line words found =
    elim (cases_lt 8192 (length line)) [
      | inl long ↦ let known = words_or_fault-long line long in cc
      | inr short ↦ accepted-words line words short (rw (← words_or_fault-words, found))
    ]

-- the words of an accepted line, and its marks
pub record Known (line : List ℕ) (list : Marks) (words : List (List ℕ)) : Type 0 where
  pub found : words_or_fault line ≡ Ok words
  pub some : 0 < length words
  pub count : list.count ≡ length words
  pub spans : marked line list.spans ≡ take 16 words
  pub lies : All (LiesIn line) list.spans

known : (line : List ℕ) (list : Marks) (answer : Result (List (List ℕ)) LineFault) → words_or_fault line ≡ answer → WordsFound line list (Ok tt) answer
    → (words : List (List ℕ)) × Known line list words
known line list (Ok words) same facts =
    let accepted = Accepted-words line words same in
    (words, record { found = same; some = accepted.some; count = facts.1; spans = facts.2; lies = facts.3 })
known line list (Err fault) same facts = cc

pub Known-words : (line : List ℕ) (list : Marks) → WordsAnswer line list (Ok tt) → (words : List (List ℕ)) × Known line list words
Known-words line list answer = known line list (words_or_fault line) refl answer
