-- The text of a list decodes to the list, and a word that decodes to a list is its text: if this holds for each entry and no entry's text has a comma. By
-- induction on the parts.
use Rattle.std.proofs.Common.{◌≡◌, ℕ, ◌<◌, ◌==◌, Bool, true, false, List, [], ◌∷◌, length, map, Option, Some, inl, inr, refl, sym, ap, ap₂, ◌∙◌, arith}
use Rattle.std.proofs.{lemmas.Bool.{cases_Bool, cond-false}, lemmas.List.Splits.{join_with_byte-slice_split, length-slice_split}, lemmas.Slice.Eq.{bytes_eq-Decides}}
use Rattle.std.specs.{List.{join_with_byte, list_all}, Str.{bytes_eq}}
use Rattle.p25_line.proofs.JoinLaws.{Lacks, split-join}
use Rattle.p25_line.specs.CommaLists.{comma_parts, comma_text, dash, entries_in, list_in, list_text, with_entry}

-- each entry fits
abbrev pub AllFit : {X : Type 0} → (X → Type 0) → List X → Type 0
AllFit Fits [] = Unit {0}
AllFit Fits (entry ∷ entries) = Fits entry × AllFit Fits entries

-- the laws of each entry: its text has no comma and decodes to the entry, and a text that decodes to an entry is the text of that entry
pub record EntryLaws {X : Type 0} (text : X → List ℕ) (read : List ℕ → Option X) (Fits : X → Type 0) (is_part : List ℕ → Bool) : Type 0 where
  pub lacks : (part : List ℕ) → is_part part ≡ true → Lacks 44 part
  pub written : (entry : X) → Fits entry → is_part (text entry) ≡ true
  pub back : (entry : X) → Fits entry → read (text entry) ≡ Some entry
  pub again : (word : List ℕ) (entry : X) → read word ≡ Some entry → (text entry ≡ word) × Fits entry

module _ {X : Type 0} {text : X → List ℕ} {read : List ℕ → Option X} {Fits : X → Type 0} {is_part : List ℕ → Bool} (laws : EntryLaws text read Fits is_part) where
  parts-fit : (entries : List X) → AllFit Fits entries → list_all is_part (map text entries) ≡ true
  parts-fit [] fits = refl
  parts-fit (entry ∷ entries) fits = cc (laws.written entry fits.0, parts-fit entries fits.1)

  entries_in-text : (entries : List X) → AllFit Fits entries → entries_in read (map text entries) ≡ Some entries
  entries_in-text [] fits = refl
  entries_in-text (entry ∷ entries) fits = cc (laws.back entry fits.0, entries_in-text entries fits.1)

  entries_more : (part : List ℕ) (parts : List (List ℕ)) (first : Option X) (others : Option (List X)) (entries : List X) → read part ≡ first → with_entry first others ≡ Some entries
      → ((rest : List X) → others ≡ Some rest → (map text rest ≡ parts) × AllFit Fits rest) → (map text entries ≡ part ∷ parts) × AllFit Fits entries
  entries_more part parts (Some entry) (Some others) (first ∷ entries) found all step =
      let one = laws.again part first (found ∙ ap Some (cc all)) in
      let rest = step entries (ap Some (cc all)) in
      (ap₂ ◌∷◌ one.0 rest.0, (one.1, rest.1))
  entries_more part parts first others entries found all step = cc

  text-entries_in : (parts : List (List ℕ)) (entries : List X) → entries_in read parts ≡ Some entries → (map text entries ≡ parts) × AllFit Fits entries
  text-entries_in [] [] found = (refl, tt)
  text-entries_in [] (entry ∷ entries) found = cc
  text-entries_in (part ∷ parts) entries found = entries_more part parts (read part) (entries_in read parts) entries refl found (λ rest h. text-entries_in parts rest h)

  -- the text of a list decodes to it, if that text is not `-`
  pub list_in-text : (entries : List X) → AllFit Fits entries → (0 < length entries → bytes_eq (list_text text entries) dash ≡ false) → list_in read (list_text text entries) ≡ Some entries
  unfolding comma_text
  list_in-text [] fits other = refl
  list_in-text (entry ∷ entries) fits other =
      let word = list_text text (entry ∷ entries) in
      cc (
        cond-false (bytes_eq word dash) (Some []) (entries_in read (comma_parts word)) (other (omega arith)),
        split-join 44 is_part laws.lacks (map text (entry ∷ entries)) (omega arith) (parts-fit (entry ∷ entries) fits),
        entries_in-text (entry ∷ entries) fits,
      )

  joined : (word : List ℕ) (entries : List X) → map text entries ≡ comma_parts word → AllFit Fits entries → (list_text text entries ≡ word) × AllFit Fits entries
  unfolding comma_text
  joined word [] same fits = absurd (omega (arith, ap length same, length-slice_split (λ octet. octet == 44) word))
  joined word (entry ∷ entries) same fits = (ap (join_with_byte 44) same ∙ join_with_byte-slice_split 44 word, fits)

  -- a word that decodes to a list is its text
  pub text-list_in : (word : List ℕ) (entries : List X) → list_in read word ≡ Some entries → (list_text text entries ≡ word) × AllFit Fits entries
  text-list_in word entries found =
      let empty : List X = [] in
      elim (cases_Bool (bytes_eq word dash)) [
        | inl same_dash ↦
            let same : empty ≡ entries = cc in
            rw (← same) (sym ((bytes_eq-Decides word dash).0 same_dash), tt)
        | inr other ↦
            let facts = text-entries_in (comma_parts word) entries (sym (cond-false (bytes_eq word dash) (Some empty) (entries_in read (comma_parts word)) other) ∙ found) in
            joined word entries facts.0 facts.1
      ]
