-- Octets are read from their text, and a word that decodes to octets is their text. By cases on the result of each test.
use Rattle.std.proofs.Common.{◌≡◌, ℕ, ◌*◌, ◌/◌, ◌%◌, ◌<◌, ◌≤◌, ◌==◌, ◌&&◌, true, false, cond, List, [], ◌∷◌, length, Some, None, inl, inr, refl, sym, ap, ap₂, subst, ◌∙◌, arith}
use Rattle.std.proofs.{lemmas.Bool.{and_parts, cases_Bool, cond-true, cond-false, eq-eqb, eqb-true, le-leb, leb-true, lt-ltb}, lemmas.List.Elements.{All-nil}, lemmas.Slice.Eq.{bytes_eq-Decides}}
use Rattle.std.specs.{Prelude.{nat_le}, List.{list_all}, Str.{bytes_eq}}
use Rattle.hex.specs.Hex.{encode_lower, lower_digits}
use Rattle.hex.proofs.HexLemmas.{length-encode_with}
use Rattle.p25_line.specs.{CommaLists.{dash}, Octets.{has_digits_up_to, octets_text, octets_up_to}, Values.{AllOctets, is_lower_digit, octets_of}, Words.{is_word}}
use Rattle.p25_line.proofs.{HexLaws.{list_all-encode_lower, octets_of-encode_lower, octets_of-facts}, WordsLaws.{digits-printed}}

-- a word of two octets or more is no `-`
no_dash : (word : List ℕ) → 2 ≤ length word → bytes_eq word dash ≡ false
no_dash word long =
    elim (cases_Bool (bytes_eq word dash)) [
      | inl same ↦ absurd (omega (arith, ap length ((bytes_eq-Decides word dash).0 same)))
      | inr other ↦ other
    ]

-- the facts about a word of digits
record Digits (most : ℕ) (word : List ℕ) : Type 0 where
  some : 2 ≤ length word
  few : length word ≤ 2 * most
  even : length word ≡ 2 * (length word / 2)
  digits : list_all is_lower_digit word ≡ true

Digits-passed : (most : ℕ) (word : List ℕ) → has_digits_up_to most word ≡ true → Digits most word
Digits-passed most word passed =
    let third = and_parts (nat_le 2 (length word) && nat_le (length word) (2 * most) && (length word % 2 == 0)) (list_all is_lower_digit word) passed in
    let second = and_parts (nat_le 2 (length word) && nat_le (length word) (2 * most)) (length word % 2 == 0) third.0 in
    let first = and_parts (nat_le 2 (length word)) (nat_le (length word) (2 * most)) second.0 in
    record {
      some = leb-true 2 (length word) first.0;
      few = leb-true (length word) (2 * most) first.1;
      even = omega (arith, eqb-true (length word % 2) 0 second.1);
      digits = third.1;
    }

-- the text of one octet or more decodes to them
pub octets_up_to-digits : (most : ℕ) (word octets : List ℕ) → 0 < length octets → length octets ≤ most → AllOctets octets → encode_lower octets ≡ word → octets_up_to most word ≡ Some octets
octets_up_to-digits most word octets some few fits text =
    let count : length word ≡ 2 * length octets = rw (← text, length-encode_with) in
    let long : 2 ≤ length word = omega (arith, count, some) in
    let passed : has_digits_up_to most word ≡ true =
    ap₂ ◌&&◌ (ap₂ ◌&&◌ (ap₂ ◌&&◌ (le-leb 2 (length word) long) (le-leb (length word) (2 * most) (omega (arith, count, few)))) (eq-eqb (length word % 2) 0 (omega (arith, count))))
    (ap (list_all is_lower_digit) (sym text) ∙ list_all-encode_lower octets fits) in
    cc (
      cond-false (bytes_eq word dash) (Some []) (cond (has_digits_up_to most word) (Some (octets_of word)) None) (no_dash word long),
      cond-true (has_digits_up_to most word) (Some (octets_of word)) None passed,
      text,
      octets_of-encode_lower octets fits,
    )

-- octets are read from their text
pub octets_up_to-text : (most : ℕ) (octets : List ℕ) → length octets ≤ most → AllOctets octets → octets_up_to most (octets_text octets) ≡ Some octets
octets_up_to-text most [] few fits = refl
octets_up_to-text most (octet ∷ octets) few fits = octets_up_to-digits most (encode_lower (octet ∷ octets)) (octet ∷ octets) (omega arith) few fits refl

octets_text-some : (octets : List ℕ) → 0 < length octets → octets_text octets ≡ encode_lower octets
octets_text-some [] some = absurd (omega arith)
octets_text-some (octet ∷ octets) some = refl

-- and a word that decodes to octets is their text
pub record IsTextOf (most : ℕ) (word octets : List ℕ) : Type 0 where
  pub text : octets_text octets ≡ word
  pub few : length octets ≤ most
  pub fits : AllOctets octets

digits-octets : (most : ℕ) (word octets : List ℕ) → cond (has_digits_up_to most word) (Some (octets_of word)) None ≡ Some octets → IsTextOf most word octets
digits-octets most word octets found =
    elim (cases_Bool (has_digits_up_to most word)) [
      | inl passed ↦
          let digits = Digits-passed most word passed in
          let facts = octets_of-facts (length word / 2) word digits.even digits.digits in
          let same : octets_of word ≡ octets = cc in
          subst (IsTextOf most word) same
          (record { text = octets_text-some (octets_of word) (omega (arith, facts.2, digits.some)) ∙ facts.0; few = omega (arith, facts.2, digits.few); fits = facts.1 })
      | inr failed ↦ cc
    ]

pub text-octets_up_to : (most : ℕ) (word octets : List ℕ) → octets_up_to most word ≡ Some octets → IsTextOf most word octets
text-octets_up_to most word octets found =
    let empty : List ℕ = [] in
    let others = cond (has_digits_up_to most word) (Some (octets_of word)) None in
    elim (cases_Bool (bytes_eq word dash)) [
      | inl same_dash ↦
          let none = cond-true (bytes_eq word dash) (Some empty) others same_dash in
          let same : empty ≡ octets = cc in
          rw (← same) (record { text = sym ((bytes_eq-Decides word dash).0 same_dash); few = omega arith; fits = All-nil (λ octet. octet < 256) })
      | inr other ↦ digits-octets most word octets (sym (cond-false (bytes_eq word dash) (Some empty) others other) ∙ found)
    ]

-- a word that is no text of octets is none
pub octets_up_to-none : (most : ℕ) (word : List ℕ) (count : ℕ) → bytes_eq word dash ≡ false → count ≡ length word / 2
    → ((octets : List ℕ) → length octets ≡ count → AllOctets octets → encode_lower octets ≡ word → ⊥) → octets_up_to most word ≡ None
octets_up_to-none most word count other same refused =
    simp cond-false (elim (cases_Bool (has_digits_up_to most word)) [
      | inl passed ↦
          let digits = Digits-passed most word passed in
          let facts = octets_of-facts (length word / 2) word digits.even digits.digits in
          absurd (refused (octets_of word) (facts.2 ∙ sym same) facts.1 facts.0)
      | inr failed ↦ cond-false (has_digits_up_to most word) (Some (octets_of word)) None failed
    ])

-- the text of octets is a word
pub octets-word : (octets : List ℕ) → AllOctets octets → is_word (octets_text octets) ≡ true
octets-word [] fits = refl
octets-word (octet ∷ octets) fits =
    ap₂ ◌&&◌ (lt-ltb 0 (length (encode_lower (octet ∷ octets))) (omega (arith, length-encode_with lower_digits (octet ∷ octets))))
    (digits-printed (encode_lower (octet ∷ octets)) (list_all-encode_lower (octet ∷ octets) fits))

pub length-octets_text : (most : ℕ) (octets : List ℕ) → 0 < most → length octets ≤ most → length (octets_text octets) ≤ 2 * most
length-octets_text most [] some few = omega arith
length-octets_text most (octet ∷ octets) some few = omega (arith, length-encode_with lower_digits (octet ∷ octets))
