-- The lines after more octets, texts after one more, and the decodings of lines, by that of the first: each by one unfolding, or by induction on the
-- octets or the texts.
use Rattle.std.proofs.Common.{◌≡◌, ℕ, zero, suc, ◌+◌, ◌<◌, Bool, true, false, not, cond, nat_eq, List, [], ◌∷◌, ◌++◌, length, take, Some, None, Result, Ok, Err, refl, ap, sym, subst, ◌∙◌, arith, append_assoc, append-nil}
use Rattle.std.proofs.{lemmas.Bool.Decides.{nat_tests}, lemmas.Bool.{cond-false}}
use Rattle.std.specs.{Prelude.{Contains}, List.{position_or_len}}
use Rattle.p25_line.specs.declared.fault.LineFault.{LineFault}
use Rattle.p25_filter.specs.{declared.ending.Ending.TheVariants.{BadLine}, Lines.{each_behind, lines_in, read_of, refusal_in}}

-- the number of octets before the first LF
abbrev pub octets_before : List ℕ → ℕ
octets_before octets = position_or_len (λ octet. nat_eq octet 10) octets

-- octets before the first LF go on with the line
pub lines_in-part : (ended : Bool) (line octets more : List ℕ)
    → lines_in ended line (take (octets_before octets) octets ++ more) ≡ lines_in ended (line ++ take (octets_before octets) octets) more
unfolding lines_in
lines_in-part ended line [] more = ap (λ (l : List ℕ). lines_in ended l more) (sym (append-nil line))
lines_in-part ended line (octet ∷ octets) more = by_test (nat_eq octet 10) refl (lines_in-part ended (line ++ octet ∷ []) octets more)
  where
    count : ℕ
    count = octets_before octets

    by_test : (is : Bool) → nat_eq octet 10 ≡ is
        → lines_in ended (line ++ octet ∷ []) (take count octets ++ more) ≡ lines_in ended ((line ++ octet ∷ []) ++ take count octets) more
        → lines_in ended line (take (cond (not is) (1 + count) 0) (octet ∷ octets) ++ more) ≡ lines_in ended (line ++ take (cond (not is) (1 + count) 0) (octet ∷ octets)) more
    by_test true same rest = ap (λ (l : List ℕ). lines_in ended l more) (sym (append-nil line))
    by_test false same rest =
        let next : suc count ≡ 1 + count = omega arith in
        subst (λ (n : ℕ). lines_in ended line (take n (octet ∷ octets) ++ more) ≡ lines_in ended (line ++ take n (octet ∷ octets)) more) next
        (cond-false (nat_eq octet 10) (line ∷ lines_in ended [] (take count octets ++ more)) (lines_in ended (line ++ octet ∷ []) (take count octets ++ more)) same
        ∙ rest ∙ ap (λ (l : List ℕ). lines_in ended l more) (append_assoc line (octet ∷ []) (take count octets)))

-- the first LF ends the line
take-end : (octets : List ℕ) → octets_before octets < length octets → take (octets_before octets + 1) octets ≡ take (octets_before octets) octets ++ 10 ∷ []
take-end [] there = absurd (omega arith)
take-end (octet ∷ octets) there = by_test (nat_eq octet 10) refl there (take-end octets)
  where
    count : ℕ
    count = octets_before octets

    by_test : (is : Bool) → nat_eq octet 10 ≡ is → cond (not is) (1 + count) 0 < length (octet ∷ octets)
        → (count < length octets → take (count + 1) octets ≡ take count octets ++ 10 ∷ [])
        → take (cond (not is) (1 + count) 0 + 1) (octet ∷ octets) ≡ take (cond (not is) (1 + count) 0) (octet ∷ octets) ++ 10 ∷ []
    by_test true same below rest = let is : octet ≡ 10 = grind (arith, nat_tests, same) in ap (λ (o : ℕ). o ∷ []) is
    by_test false same below rest =
        let next : suc count ≡ 1 + count = omega arith in
        subst (λ (n : ℕ). take (n + 1) (octet ∷ octets) ≡ take n (octet ∷ octets) ++ 10 ∷ []) next
        (let more : suc count + 1 ≡ suc (count + 1) = omega arith in
        ap (λ (n : ℕ). take n (octet ∷ octets)) more ∙ ap (λ (os : List ℕ). octet ∷ os) (rest (omega (arith, below))))

pub lines_in-end : (ended : Bool) (line octets more : List ℕ) → octets_before octets < length octets
    → lines_in ended line (take (octets_before octets + 1) octets ++ more) ≡ (line ++ take (octets_before octets) octets) ∷ lines_in ended [] more
unfolding lines_in
lines_in-end ended line octets more there =
    let part = take (octets_before octets) octets in
    ap (λ (os : List ℕ). lines_in ended line (os ++ more)) (take-end octets there)
    ∙ ap (lines_in ended line) (append_assoc part (10 ∷ []) more)
    ∙ lines_in-part ended line octets (10 ∷ more)

-- the first of a list is in it, so is each of the rest, and nothing is in the empty list
pub Contains-here : {X : Type 0} (x : X) (xs : List X) → Contains (x ∷ xs) x
Contains-here x xs = (0, omega arith, refl)

pub Contains-later : {X : Type 0} (y : X) (xs : List X) (x : X) → Contains xs x → Contains (y ∷ xs) x
Contains-later y xs x (k, below, is) = (suc k, omega (arith, below), is)

pub Contains-none : {X : Type 0} (x : X) → Contains [] x → ⊥
Contains-none x (k, below, is) = omega (arith, below)

-- texts after one more are those of the texts
pub each_behind-in : (text : List ℕ) (texts : List (List ℕ)) (more : List ℕ) → Contains texts more → Contains (each_behind text texts) (text ++ more)
unfolding each_behind
each_behind-in text [] more is = absurd (Contains-none more is)
each_behind-in text (one ∷ texts) more (zero, below, is) =
    subst (λ (zs : List ℕ). Contains (each_behind text (one ∷ texts)) (text ++ zs)) is (Contains-here (text ++ one) (each_behind text texts))
each_behind-in text (one ∷ texts) more (suc k, below, is) =
    Contains-later (text ++ one) (each_behind text texts) (text ++ more) (each_behind-in text texts more (k, omega (arith, below), is))

pub each_behind-from : (text : List ℕ) (texts : List (List ℕ)) (whole : List ℕ) → Contains (each_behind text texts) whole
    → (more : List ℕ) × Contains texts more × (text ++ more ≡ whole)
unfolding each_behind
each_behind-from text [] whole is = absurd (Contains-none whole is)
each_behind-from text (one ∷ texts) whole (zero, below, is) = (one, Contains-here one texts, is)
each_behind-from text (one ∷ texts) whole (suc k, below, is) =
    let rest = each_behind-from text texts whole (k, omega (arith, below), is) in
    (rest.0, Contains-later one texts rest.0 rest.1, rest.2)

-- texts after an empty one are those texts
pub each_behind-none : (texts : List (List ℕ)) → each_behind [] texts ≡ texts
unfolding each_behind
each_behind-none [] = refl
each_behind-none (text ∷ texts) = ap (λ ts. text ∷ ts) (each_behind-none texts)

-- the decodings of lines
module _ {E : Type 0} (read : List ℕ → Result E LineFault) where
  pub read_of-ok : (line : List ℕ) (lines : List (List ℕ)) (event : E) → read line ≡ Ok event → read_of read (line ∷ lines) ≡ event ∷ read_of read lines
  unfolding read_of
  read_of-ok line lines event is = ap (λ (r : Result E LineFault). elim r [ Ok event ↦ event ∷ read_of read lines | Err fault ↦ [] ]) is

  pub read_of-err : (line : List ℕ) (lines : List (List ℕ)) (fault : LineFault) → read line ≡ Err fault → read_of read (line ∷ lines) ≡ []
  unfolding read_of
  read_of-err line lines fault is = ap (λ (r : Result E LineFault). elim r [ Ok event ↦ event ∷ read_of read lines | Err fault ↦ [] ]) is

  pub read_of-nil : read_of read [] ≡ []
  unfolding read_of
  read_of-nil = refl

  pub refusal_in-ok : (number : ℕ) (line : List ℕ) (lines : List (List ℕ)) (event : E) → read line ≡ Ok event
      → refusal_in read number (line ∷ lines) ≡ refusal_in read (number + 1) lines
  unfolding refusal_in
  refusal_in-ok number line lines event is =
      ap (λ (r : Result E LineFault). elim r [ Ok event ↦ refusal_in read (number + 1) lines | Err fault ↦ Some (BadLine number fault) ]) is

  pub refusal_in-err : (number : ℕ) (line : List ℕ) (lines : List (List ℕ)) (fault : LineFault) → read line ≡ Err fault
      → refusal_in read number (line ∷ lines) ≡ Some (BadLine number fault)
  unfolding refusal_in
  refusal_in-err number line lines fault is =
      ap (λ (r : Result E LineFault). elim r [ Ok event ↦ refusal_in read (number + 1) lines | Err fault ↦ Some (BadLine number fault) ]) is

  pub refusal_in-nil : (number : ℕ) → refusal_in read number [] ≡ None
  unfolding refusal_in
  refusal_in-nil number = refl
