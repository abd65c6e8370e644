-- The laws of each form of script lines by those of its words: the type that a first word names, and the result of the reader of a whole line.
use Rattle.std.proofs.Common.{◌≡◌, ℕ, ◌≤◌, List, [], ◌∷◌, length, Option, Some, None, Result, Ok, refl, sym, ap, subst, ◌∙◌}
use Rattle.std.specs.{Prelude.{IfOk}, List.{find, join_with_byte}, Str.{bytes_eq}}
use Rattle.p25_line.specs.{LineReadings.{line_read, named_or_fault}, declared.fault.LineFault.{LineFault}}
use Rattle.p25_script.specs.Script.{read_by_kind}
use Rattle.p25_line.proofs.{LineReadLaws.{WordLaws, line_read-facts, line_read-words}, WordsLaws.{named-word}}

-- words of which the first names a type are those of the decoded value, if the others are by that type
module _ {K X : Type 0} (words : X → List (List ℕ)) (Fits : X → Type 0) (word_of : K → List ℕ) (kinds : List K) (read : K → List (List ℕ) → Result X LineFault)
    (again : (kind : K) (others : List (List ℕ)) (value : X) → read kind others ≡ Ok value → (words value ≡ word_of kind ∷ others) × Fits value) where
  from-named : (first : List ℕ) (others : List (List ℕ)) (kind : Option K) (value : X) → find (λ k. bytes_eq first (word_of k)) kinds ≡ kind
      → named_or_fault read kind others ≡ Ok value → (words value ≡ first ∷ others) × Fits value
  from-named first others None value named found = cc found
  from-named first others (Some kind) value named found =
      let is = again kind others value found in (is.0 ∙ ap (λ w. w ∷ others) (named-word word_of kinds first kind named), is.1)

  pub from-words : (others : List (List ℕ)) (value : X) → read_by_kind (λ word. find (λ k. bytes_eq word (word_of k)) kinds) read others ≡ Ok value
      → (words value ≡ others) × Fits value
  from-words [] value found = cc found
  from-words (first ∷ others) value found = from-named first others (find (λ k. bytes_eq first (word_of k)) kinds) value refl found

-- the results of the reader of a whole line, beside the decoding
pub record IsToldOf {X : Type 0} (words : X → List (List ℕ)) (Fits : X → Type 0) (line : List ℕ) (result : Result X LineFault) : Type 0 where
  pub text : IfOk result (λ value. join_with_byte 32 (words value) ≡ line)
  pub fits : IfOk result Fits
  pub each : (value : X) → Fits value → length line ≤ 8192 → join_with_byte 32 (words value) ≡ line → result ≡ Ok value

pub line_read-told : {X : Type 0} {words : X → List (List ℕ)} {read : List (List ℕ) → Result X LineFault} {Fits : X → Type 0}
    → WordLaws words read Fits → (line : List ℕ) (result : Result X LineFault) → result ≡ line_read read line → IsToldOf words Fits line result
line_read-told {read = read} laws line result same =
    let facts = line_read-facts laws line result same in record {
      text = facts.0;
      fits = facts.1;
      each = λ value fits short text. same ∙ ap (line_read read) (sym text) ∙ line_read-words laws value fits (subst (λ (l : List ℕ). length l ≤ 8192) (sym text) short);
    }
