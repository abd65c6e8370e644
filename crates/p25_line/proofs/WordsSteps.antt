-- The invariant of the loop over a line's octets: the parts that end before `start` are words and are kept, and from there up to `i` the octets are
-- printable.
use Rattle.std.proofs.Common.{◌≡◌, ℕ, zero, suc, ◌+◌, ◌-◌, ◌<◌, ◌≤◌, ◌==◌, ◌&&◌, ◌||◌, true, false, List, [], ◌∷◌, ◌++◌, length, take, drop, get_or, Some, None, Ok, Err, refl, sym, ap, ap₂, subst, ◌∙◌, arith, take-append-drop, append-nil, length-append, length-take, length-drop, ◌⊎◌, inl, inr}
use Rattle.std.proofs.{lemmas.Bool.{cases_Bool, eqb-true, lt-ltb, true≢false}, lemmas.List.{drop_more, take_all, take_at, drop_all, drop-drop, take-map, get_or-drop, map-append}}
use Rattle.std.proofs.{lemmas.List.Elements.{All-push, All-take}, lemmas.List.Folds.{list_all-append, list_all_more, list_all_at}, lemmas.List.Splits.{slice_split_none, slice_split_at}}
use Rattle.std.specs.{List.{list_all, All}}
use Rattle.p25_line.specs.{Marks.{Marks}, Words.{is_printed, is_word, parts_of, words_in, LiesIn, word_at, marked, WordsAnswer}, declared.fault.LineFault.TheVariants.{Long, Form}}
use Rattle.p25_line.specs.declared.word_list.Span.{Span}
use Rattle.p25_line.proofs.WordsLaws.{printed-spaces, printed-parts, words-printed, words_in-words, words_in-none, words_or_fault-long, words_or_fault-words, is_allowed}

-- the list of spans has capacity, or is full
pub noted-room : (spans : List Span) (span : Span) → (length spans == 16) ≡ false → length spans ≤ 16 → spans ++ span ∷ [] ≡ take 16 (spans ++ span ∷ [])
noted-room spans span other most =
    let room : length spans < 16 = grind arith in
    sym (take_all 16 (spans ++ span ∷ []) (omega (arith, length-append spans (span ∷ []))))

pub noted-full : (spans : List Span) (span : Span) → (length spans == 16) ≡ true → spans ≡ take 16 (spans ++ span ∷ [])
noted-full spans span full = sym (take_at spans (span ∷ []) 16 (eqb-true (length spans) 16 full))

-- the first elements of a list, some of which were cut off before
take-take_append : {X : Type 0} (n : ℕ) (xs ys : List X) → take n (take n xs ++ ys) ≡ take n (xs ++ ys)
take-take_append (suc n) (x ∷ xs) ys = cc (take-take_append n xs ys)
take-take_append n xs ys = refl

-- the words at the spans, after one more span
marked-noted : (line : List ℕ) (spans : List Span) (span : Span) (found : List (List ℕ)) → marked line spans ≡ take 16 found
    → marked line (take 16 (spans ++ span ∷ [])) ≡ take 16 (found ++ word_at line span ∷ [])
marked-noted line spans span found same =
    rw (← take-map, map-append, same, take-take_append)

-- the invariant of the loop
pub record Cut (line : List ℕ) (list : Marks) (start i : ℕ) : Type 0 where
  pub order : start ≤ i
  pub within : i ≤ length line
  pub few : list.count ≤ start
  pub rest : drop list.count (parts_of line) ≡ parts_of (drop start line)
  pub words : list_all is_word (take list.count (parts_of line)) ≡ true
  pub spans : marked line list.spans ≡ take 16 (take list.count (parts_of line))
  pub lies : All (LiesIn line) list.spans
  pub printed : list_all is_printed (take (i - start) (drop start line)) ≡ true

-- one more printed octet
pub Cut-printed : (line : List ℕ) (list : Marks) (start i : ℕ) → Cut line list start i → i < length line → is_printed (get_or line i 0) ≡ true
    → Cut line list start (i + 1)
Cut-printed line list start i cut inside octet =
    let order : start ≤ i = cut.order in
    let span : start + (i - start) ≡ i = omega arith in
    let same : get_or (drop start line) (i - start) 0 ≡ get_or line i 0 = simp (get_or-drop, span) in
    record {
      order = omega arith;
      within = omega arith;
      few = cut.few;
      rest = cut.rest;
      words = cut.words;
      spans = cut.spans;
      lies = cut.lies;
      printed =
          ap (λ n. list_all is_printed (take n (drop start line))) (omega arith)
          ∙ list_all_more is_printed (drop start line) (i - start) 0 (omega (arith, length-drop start line))
          ∙ ap₂ ◌&&◌ cut.printed (ap is_printed same ∙ octet);
    }

-- the rest of a line at a space
rest-space : (line : List ℕ) (start i : ℕ) → start ≤ i → i < length line → get_or line i 0 ≡ 32
    → drop start line ≡ take (i - start) (drop start line) ++ 32 ∷ drop (i + 1) line
rest-space line start i order inside space =
    let span : start + (i - start) ≡ i = omega arith in
    cc (take-append-drop (i - start) (drop start line), drop-drop (i - start) start line, span, drop_more line i 0 inside, space)

-- the parts of the rest at a space
parts-space : (line : List ℕ) (list : Marks) (start i : ℕ) → Cut line list start i → i < length line → get_or line i 0 ≡ 32
    → parts_of (drop start line) ≡ take (i - start) (drop start line) ∷ parts_of (drop (i + 1) line)
parts-space line list start i cut inside space =
    let word = take (i - start) (drop start line) in
    cc (rest-space line start i cut.order inside space, slice_split_at (λ octet. octet == 32) word 32 (drop (i + 1) line) (printed-spaces word cut.printed) refl)

-- one more part: the parts up to it and those after it
more-parts : (parts : List (List ℕ)) (count : ℕ) (part : List ℕ) (others : List (List ℕ)) → drop count parts ≡ part ∷ others
    → (take (count + 1) parts ≡ take count parts ++ part ∷ []) × (drop (count + 1) parts ≡ others)
more-parts [] zero part others rest = cc
more-parts [] (suc count) part others rest = cc
more-parts (first ∷ parts) zero part others rest = (cc rest, cc)
more-parts (first ∷ parts) (suc count) part others rest =
    let more = more-parts parts count part others rest in
    let next : suc count + 1 ≡ suc (count + 1) = omega arith in (
      ap (λ n. take n (first ∷ parts)) next ∙ ap (λ l. first ∷ l) more.0,
      ap (λ n. drop n (first ∷ parts)) next ∙ more.1,
    )

-- a part with a printed octet is a word
word-part : (line : List ℕ) (start i : ℕ) → start < i → i ≤ length line → list_all is_printed (take (i - start) (drop start line)) ≡ true
    → is_word (take (i - start) (drop start line)) ≡ true
word-part line start i some within printed =
    ap₂ ◌&&◌ (lt-ltb 0 _ (omega (arith, length-take (i - start) (drop start line), length-drop start line))) printed

-- the words so far, with one more
words-more : (found : List (List ℕ)) (word : List ℕ) → list_all is_word found ≡ true → is_word word ≡ true → list_all is_word (found ++ word ∷ []) ≡ true
words-more found word all one = simp (list_all-append, all, one)

noted_word : (line : List ℕ) (list noted : Marks) (start i : ℕ) → Cut line list start i → start < i
    → noted.spans ≡ take 16 (list.spans ++ record { start = start; len = i - start } ∷ []) → (others : List (List ℕ))
    → drop list.count (parts_of line) ≡ take (i - start) (drop start line) ∷ others
    → (list_all is_word (take (list.count + 1) (parts_of line)) ≡ true)
    × (marked line noted.spans ≡ take 16 (take (list.count + 1) (parts_of line)))
    × (All (LiesIn line) noted.spans)
    × (drop (list.count + 1) (parts_of line) ≡ others)
noted_word line list noted start i cut some spans others rest =
    let span : Span = record { start = start; len = i - start } in
    let word = take (i - start) (drop start line) in
    let more = more-parts (parts_of line) list.count word others rest in (
      ap (list_all is_word) more.0 ∙ words-more (take list.count (parts_of line)) word cut.words (word-part line start i some cut.within cut.printed),
      ap (marked line) spans ∙ marked-noted line list.spans span (take list.count (parts_of line)) cut.spans ∙ ap (take 16) (sym more.0),
      subst (All (LiesIn line)) (sym spans) (All-take (LiesIn line) 16 (list.spans ++ span ∷ []) (All-push (LiesIn line) list.spans span cut.lies (omega arith))),
      more.1,
    )

-- a word that ends before a space
pub Cut-space : (line : List ℕ) (list noted : Marks) (start i : ℕ) → Cut line list start i → i < length line → start < i → get_or line i 0 ≡ 32
    → noted.count ≡ list.count + 1 → noted.spans ≡ take 16 (list.spans ++ record { start = start; len = i - start } ∷ []) → Cut line noted (i + 1) (i + 1)
Cut-space line list noted start i cut inside some space count spans =
    let few : list.count ≤ start = cut.few in
    let facts = noted_word line list noted start i cut some spans (parts_of (drop (i + 1) line)) (cut.rest ∙ parts-space line list start i cut inside space) in
    let none : (i + 1) - (i + 1) ≡ 0 = omega arith in
    record {
      order = omega arith;
      within = omega arith;
      few = omega arith;
      rest = ap (λ n. drop n (parts_of line)) count ∙ facts.3;
      words = ap (λ n. list_all is_word (take n (parts_of line))) count ∙ facts.0;
      spans = facts.1 ∙ ap (λ n. take 16 (take n (parts_of line))) (sym count);
      lies = facts.2;
      printed = ap (λ n. list_all is_printed (take n (drop (i + 1) line))) none;
    }

-- the parts of the rest decide
rest-decides : (line : List ℕ) (list : Marks) (start i : ℕ) → Cut line list start i → list_all is_word (parts_of line) ≡ list_all is_word (parts_of (drop start line))
rest-decides line list start i cut =
    cc (take-append-drop list.count (parts_of line), list_all-append is_word (take list.count (parts_of line)) (drop list.count (parts_of line)), cut.words, cut.rest)

-- the last word of a line
pub Cut-end : (line : List ℕ) (list noted : Marks) (start i : ℕ) → Cut line list start i → i ≡ length line → start < i
    → noted.count ≡ list.count + 1 → noted.spans ≡ take 16 (list.spans ++ record { start = start; len = i - start } ∷ [])
    → (words_in line ≡ Some (parts_of line)) × (noted.count ≡ length (parts_of line)) × (marked line noted.spans ≡ take 16 (parts_of line)) × All (LiesIn line) noted.spans
Cut-end line list noted start i cut end some count spans =
    let whole : take (i - start) (drop start line) ≡ drop start line = take_all (i - start) (drop start line) (omega (arith, length-drop start line)) in
    let last : parts_of (drop start line) ≡ take (i - start) (drop start line) ∷ [] =
    cc (slice_split_none (λ octet. octet == 32) (drop start line) (printed-spaces (drop start line) (ap (list_all is_printed) (sym whole) ∙ cut.printed)), whole) in
    let facts = noted_word line list noted start i cut some spans [] (cut.rest ∙ last) in
    let all : take (list.count + 1) (parts_of line) ≡ parts_of line =
    cc (append-nil (take (list.count + 1) (parts_of line)), facts.3, take-append-drop (list.count + 1) (parts_of line)) in
    let one : length (parts_of line) - list.count ≡ 1 = rw (← length-drop, cut.rest, last) in (
      words_in-words line (cc (all, facts.0)),
      omega arith,
      facts.1 ∙ ap (take 16) all,
      facts.2,
    )

-- a line that ends with a space, or an empty one
pub none-end : (line : List ℕ) (list : Marks) (start i : ℕ) → Cut line list start i → start ≡ length line → words_in line ≡ None
none-end line list start i cut end =
    words_in-none line (cc (rest-decides line list start i cut, drop_all start line (omega arith)))

-- if the rest of a line begins with a space, its first part is no word
none-space : (line : List ℕ) (list : Marks) (start i : ℕ) → Cut line list start i → i < length line → get_or line i 0 ≡ 32 → i ≡ start
    → list_all is_word (parts_of (drop start line)) ≡ false
none-space line list start i cut inside space same =
    let none : i - start ≡ 0 = omega arith in
    cc (parts-space line list start i cut inside space, none)

-- if the parts of the rest are words, an octet that is not printed is a space
space-words : (line : List ℕ) (start i : ℕ) → start ≤ i → i < length line → is_printed (get_or line i 0) ≡ false
    → list_all is_word (parts_of (drop start line)) ≡ true → get_or line i 0 ≡ 32
space-words line start i order inside bad all =
    let octet : get_or (drop start line) (i - start) 0 ≡ get_or line i 0 = get_or-drop start line (i - start) 0 ∙ ap (λ n. get_or line n 0) (omega arith) in
    elim (cases_Bool (get_or line i 0 == 32)) [
      | inl equal ↦ eqb-true (get_or line i 0) 32 equal
      | inr other ↦
          absurd (true≢false (sym (sym (printed-parts (drop start line)) ∙ words-printed (parts_of (drop start line)) all)
          ∙ list_all_at is_allowed (drop start line) (i - start) 0 (omega (arith, length-drop start line)) (ap is_allowed octet ∙ ap₂ ◌||◌ other bad)))
    ]

-- an octet that is neither printed nor the space after a word
pub none-bad : (line : List ℕ) (list : Marks) (start i : ℕ) → Cut line list start i → i < length line → is_printed (get_or line i 0) ≡ false
    → ((get_or line i 0 ≡ 32) × (i ≤ start)) ⊎ (get_or line i 0 ≡ 32 → ⊥) → words_in line ≡ None
none-bad line list start i cut inside bad other =
    let some = λ (no_word : list_all is_word (parts_of (drop start line)) ≡ false). words_in-none line ((rest-decides line list start i cut) ∙ no_word) in
    elim other [
      | inl first ↦ some (none-space line list start i cut inside first.0 (omega (arith, first.1)))
      | inr not_space ↦ elim (cases_Bool (list_all is_word (parts_of (drop start line)))) [
        | inl all ↦ absurd (not_space (space-words line start i cut.order inside bad all))
        | inr no_word ↦ some no_word
      ]
    ]

-- a line that is too long
pub answer-long : (line : List ℕ) (list : Marks) → list ≡ record { spans = []; count = 0 } → 8192 < length line → WordsAnswer line list (Err Long)
answer-long line list none long =
    simp words_or_fault-long (refl, ap (λ (m : Marks). m.count) none, ap (λ (m : Marks). m.spans) none)

-- a line of another form
pub answer-form : (line : List ℕ) (list : Marks) → list ≡ record { spans = []; count = 0 } → length line ≤ 8192 → words_in line ≡ None → WordsAnswer line list (Err Form)
answer-form line list none short other =
    simp (other, words_or_fault-words) (refl, ap (λ (m : Marks). m.count) none, ap (λ (m : Marks). m.spans) none)

-- a line of words
pub answer-words : (line : List ℕ) (list noted : Marks) (start i : ℕ) → Cut line list start i → i ≡ length line → start < i → length line ≤ 8192
    → noted.count ≡ list.count + 1 → noted.spans ≡ take 16 (list.spans ++ record { start = start; len = i - start } ∷ []) → WordsAnswer line noted (Ok tt)
answer-words line list noted start i cut end some short count spans =
    let facts = Cut-end line list noted start i cut end some count spans in
    simp (facts.0, words_or_fault-words) (refl, facts.1, facts.2, facts.3)
