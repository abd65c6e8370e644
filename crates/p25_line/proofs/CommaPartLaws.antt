-- The parts of a word, one after the other: the first part ends at the next comma, and the others follow it.
use Rattle.std.proofs.Common.{◌≡◌, ◌≢◌, ℕ, ◌+◌, ◌-◌, ◌<◌, ◌≤◌, ◌==◌, List, [], ◌∷◌, ◌++◌, length, take, drop, get_or, refl, sym, ap, ap₂, subst, ◌∙◌, arith, length-take, length-drop}
use Rattle.std.proofs.{lemmas.Bool.{cond-true, cond-false, ne_eqb, le-leb, lt-leb}, lemmas.List.{take_all, drop_more, drop-drop, take-append-drop, get_or-take, get_or-drop, get_or_default}}
use Rattle.std.proofs.lemmas.List.Splits.{length-slice_split, slice_split_none, slice_split_at}
use Rattle.std.specs.Prelude.{nat_le}
use Rattle.p25_line.proofs.JoinLaws.{Lacks}
use Rattle.p25_line.specs.CommaLists.{comma_parts, parts_from}

-- there is no comma from one index up to another
abbrev pub NoComma : List ℕ → ℕ → ℕ → Type 0
NoComma word start end = (k : ℕ) → start ≤ k → k < end → get_or word k 0 ≢ 44

lacks-part : (word : List ℕ) (start n : ℕ) → NoComma word start (start + n) → Lacks 44 (take n (drop start word))
lacks-part word start n none i d inside =
    let short : i < n = omega (arith, length-take n (drop start word)) in
    let same : get_or (take n (drop start word)) i d ≡ get_or word (start + i) d = simp (get_or-take, get_or-drop) in
    let any : get_or word (start + i) d ≡ get_or word (start + i) 0 = get_or_default word (start + i) d 0 (omega (arith, length-take n (drop start word), length-drop start word)) in
    let other = none (start + i) (omega arith) (omega arith) in
    simp (same, any, ne_eqb)

-- a word is its parts from its beginning
pub parts_from-start : (word : List ℕ) → parts_from word 0 ≡ comma_parts word
unfolding parts_from
parts_from-start word = cond-true (nat_le 0 (length word)) (comma_parts (drop 0 word)) [] (le-leb 0 (length word) (omega arith))

pub parts_from-past : (word : List ℕ) (start : ℕ) → length word < start → parts_from word start ≡ []
unfolding parts_from
parts_from-past word start past = cond-false (nat_le start (length word)) (comma_parts (drop start word)) [] (lt-leb start (length word) past)

parts_from-within : (word : List ℕ) (start : ℕ) → start ≤ length word → parts_from word start ≡ comma_parts (drop start word)
unfolding parts_from
parts_from-within word start within = cond-true (nat_le start (length word)) (comma_parts (drop start word)) [] (le-leb start (length word) within)

-- the part before a comma
pub part-comma : (word part : List ℕ) (start i : ℕ) → start ≤ i → i < length word → get_or word i 0 ≡ 44 → NoComma word start i → part ≡ take (i - start) (drop start word)
    → parts_from word start ≡ part ∷ parts_from word (start + length part + 1)
part-comma word part start i order inside comma none same =
    let n = i - start in
    let rest = drop start word in
    let whole : start + n ≡ i = omega arith in
    let short : n < length rest = omega (arith, length-drop start word) in
    let count : length part ≡ n = ap length same ∙ length-take_within n rest short in
    let lacks = lacks-part word start n (subst (NoComma word start) (sym whole) none) in
    let here : get_or rest n 0 ≡ 44 = get_or-drop start word n 0 ∙ ap (λ k. get_or word k 0) whole ∙ comma in
    let split : rest ≡ take n rest ++ 44 ∷ drop (n + 1) rest =
    sym (take-append-drop n rest) ∙ ap (λ l. take n rest ++ l) (drop_more rest n 0 short ∙ ap (λ o. o ∷ drop (n + 1) rest) here) in
    let next : drop (n + 1) rest ≡ drop (start + length part + 1) word =
    drop-drop (n + 1) start word ∙ ap (λ k. drop k word) (shifted start n (length part) count) in
    parts_from-within word start (omega arith)
    ∙ ap comma_parts split
    ∙ slice_split_at (λ octet. octet == 44) (take n rest) 44 (drop (n + 1) rest) lacks refl
    ∙ ap₂ ◌∷◌ (sym same) (ap comma_parts next ∙ sym (parts_from-within word (start + length part + 1) (omega arith)))
  where
    length-take_within : (n : ℕ) (l : List ℕ) → n < length l → length (take n l) ≡ n
    length-take_within n l short = omega (arith, length-take n l)

    shifted : (start n count : ℕ) → count ≡ n → start + (n + 1) ≡ start + count + 1
    shifted start n count same = omega arith

pub part-last : (word part : List ℕ) (start : ℕ) → start ≤ length word → NoComma word start (length word) → part ≡ take (length word - start) (drop start word)
    → parts_from word start ≡ part ∷ parts_from word (start + length part + 1)
part-last word part start within none same =
    let whole : start + (length word - start) ≡ length word = omega arith in
    let all : take (length word - start) (drop start word) ≡ drop start word = take_all (length word - start) (drop start word) (omega (arith, length-drop start word)) in
    let count : length part ≡ length word - start = simp (same, all, length-drop) in
    let lacks = subst (Lacks 44) all (lacks-part word start (length word - start) (simp whole none)) in
    cc (parts_from-within word start within, slice_split_none (λ octet. octet == 44) (drop start word) lacks, all, same, parts_from-past word (start + length part + 1) (omega arith))

-- there is a part at each index within a word
pub some_parts : (word : List ℕ) (start : ℕ) → start ≤ length word → 0 < length (parts_from word start)
some_parts word start within =
    omega (arith, ap length (parts_from-within word start within), length-slice_split (λ octet. octet == 44) (drop start word))
