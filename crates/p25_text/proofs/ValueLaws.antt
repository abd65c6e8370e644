-- For each form of value, its text decodes to it, and a word that is read is its text.
use Rattle.std.proofs.Common.{◌≡◌, ℕ, ◌+◌, ◌*◌, ◌/◌, ◌%◌, ◌<◌, ◌≤◌, ◌==◌, ◌&&◌, true, cond, List, [], ◌∷◌, length, drop, slice_index, get_or, Option, Some, None, inl, inr, refl, sym, ap, ap₂, subst, ◌∙◌, arith}
use Rattle.std.proofs.{lemmas.Bool.Decides.{eqb_tells}, lemmas.Bool.{and_parts, cases_Bool, cond-true, cond-false, eq-eqb, eqb-true, ne_eqb}}
use Rattle.std.proofs.{lemmas.List.Elements.{All-nil, All-cons, All-head, All-tail}, lemmas.Slice.Eq.{bytes_eq-Decides}}
use Rattle.std.specs.{List.{list_all}, Str.{bytes_eq}}
use Rattle.hex.specs.Hex.{encode_with, encode_lower, lower_digits}
use Rattle.hex.proofs.HexLemmas.{length-encode_with}
use Rattle.p25_line.specs.{Values.{AllOctets, is_lower_digit, nibble_of, octets_of, three_digits}, CommaLists.{dash}, Octets.{octets_text, octets_up_to}}
use Rattle.p25_line.proofs.{HexLaws.{digit_facts, list_all-encode_lower, octets_of-encode_lower, octets_of-facts}, OctetsLaws.{octets_up_to-text, text-octets_up_to}}
use Rattle.p25_text.specs.Values.{octets_in, octets_or_none, number_in, nac_in}

-- one number below 256, and two
pub one_octet : (octet : ℕ) → octet < 256 → AllOctets (octet ∷ [])
one_octet octet fits = All-cons (λ o. o < 256) octet [] fits (All-nil (λ o. o < 256))

pub two_octets : (high low : ℕ) → high < 256 → low < 256 → AllOctets (high ∷ low ∷ [])
two_octets high low h l = All-cons (λ x. x < 256) high (low ∷ []) h (All-cons (λ x. x < 256) low [] l (All-nil (λ x. x < 256)))

-- the text of octets decodes to them
pub octets_in-encode_lower : (count : ℕ) (octets : List ℕ) → AllOctets octets → length octets ≡ count → octets_in count (encode_lower octets) ≡ Some octets
octets_in-encode_lower count octets fits same =
    let long : length (encode_lower octets) ≡ 2 * count = length-encode_with lower_digits octets ∙ ap (λ n. 2 * n) same in
    cond-true ((length (encode_lower octets) == 2 * count) && list_all is_lower_digit (encode_lower octets)) (Some (octets_of (encode_lower octets))) None
    (ap₂ ◌&&◌ (eq-eqb (length (encode_lower octets)) (2 * count) long) (list_all-encode_lower octets fits))
    ∙ ap Some (octets_of-encode_lower octets fits)

pub octets_in-read : (count : ℕ) (word octets : List ℕ) → encode_lower octets ≡ word → AllOctets octets → length octets ≡ count → octets_in count word ≡ Some octets
octets_in-read count word octets text fits same = ap (octets_in count) (sym text) ∙ octets_in-encode_lower count octets fits same

-- a word that decodes to octets is their text
pub octets_in-text : (count : ℕ) (word octets : List ℕ) → octets_in count word ≡ Some octets → (encode_lower octets ≡ word) × AllOctets octets × (length octets ≡ count)
octets_in-text count word octets found =
    elim (cases_Bool ((length word == 2 * count) && list_all is_lower_digit word)) [
      | inl passed ↦
          let parts = and_parts (length word == 2 * count) (list_all is_lower_digit word) passed in
          let facts = octets_of-facts count word (eqb-true (length word) (2 * count) parts.0) parts.1 in
          let read = cond-true ((length word == 2 * count) && list_all is_lower_digit word) (Some (octets_of word)) None passed in
          let same : octets_of word ≡ octets = cc in
          subst (λ (o : List ℕ). (encode_lower o ≡ word) × AllOctets o × (length o ≡ count)) same facts
      | inr failed ↦ let read = cond-false ((length word == 2 * count) && list_all is_lower_digit word) (Some (octets_of word)) None failed in cc
    ]

-- a word that is not the text of `count` octets has no decoding
pub octets_in-none : (count : ℕ) (word : List ℕ) → ((octets : List ℕ) → length octets ≡ count → AllOctets octets → encode_lower octets ≡ word → ⊥) → octets_in count word ≡ None
octets_in-none count word other =
    elim (cases_Bool ((length word == 2 * count) && list_all is_lower_digit word)) [
      | inl passed ↦
          let parts = and_parts (length word == 2 * count) (list_all is_lower_digit word) passed in
          let facts = octets_of-facts count word (eqb-true (length word) (2 * count) parts.0) parts.1 in
          absurd (other (octets_of word) facts.2 facts.1 facts.0)
      | inr failed ↦ cond-false ((length word == 2 * count) && list_all is_lower_digit word) (Some (octets_of word)) None failed
    ]

-- three digits, with a 0 before them, are the text of two octets
pub three_digits-text : (nac : ℕ) → nac < 4096 → 48 ∷ three_digits nac ≡ encode_lower (nac / 256 ∷ nac % 256 ∷ [])
unfolding encode_with
three_digits-text nac below =
    let first : nac / 256 / 16 ≡ 0 = omega arith in
    ap (λ n. slice_index lower_digits n ∷ three_digits nac) (sym first)

pub length-three_digits : (nac : ℕ) → length (three_digits nac) ≡ 3
unfolding encode_with
length-three_digits nac = refl

pub printed-three_digits : (nac : ℕ) → nac < 4096 → list_all is_lower_digit (three_digits nac) ≡ true
printed-three_digits nac below =
    let fits = two_octets (nac / 256) (nac % 256) (omega arith) (omega arith) in
    let whole = ap (list_all is_lower_digit) (three_digits-text nac below) ∙ list_all-encode_lower (nac / 256 ∷ nac % 256 ∷ []) fits in
    (and_parts (is_lower_digit 48) (list_all is_lower_digit (three_digits nac)) whole).1

-- a network access code is read from its text
pub nac_in-three_digits : (nac : ℕ) → nac < 4096 → nac_in (three_digits nac) ≡ Some nac
nac_in-three_digits nac below =
    let fits = two_octets (nac / 256) (nac % 256) (omega arith) (omega arith) in
    let number : 256 * (nac / 256) + nac % 256 ≡ nac = omega arith in
    ap (λ w. number_in (octets_in 2 w)) (three_digits-text nac below)
    ∙ ap number_in (octets_in-encode_lower 2 (nac / 256 ∷ nac % 256 ∷ []) fits refl)
    ∙ ap Some number

-- two octets whose text begins with a 0
first_digit : (high low : ℕ) (word : List ℕ) → high < 256 → encode_lower (high ∷ low ∷ []) ≡ 48 ∷ word → high < 16
unfolding encode_with
first_digit high low word fits text =
    let zero_digit : slice_index lower_digits (high / 16) ≡ 48 = cc in
    let value : nibble_of (slice_index lower_digits (high / 16)) ≡ high / 16 = (digit_facts (high / 16) (omega arith)).1 in
    let none : high / 16 ≡ 0 = sym value ∙ ap nibble_of zero_digit in
    omega arith

nac_from : (word : List ℕ) (octets : Option (List ℕ)) (nac : ℕ) → octets_in 2 (48 ∷ word) ≡ octets → number_in octets ≡ Some nac → (three_digits nac ≡ word) × (nac < 4096)
nac_from word (Some (high ∷ low ∷ [])) nac found number =
    let facts = octets_in-text 2 (48 ∷ word) (high ∷ low ∷ []) found in
    let high_fits : high < 256 = All-head (λ x. x < 256) high (low ∷ []) facts.1 in
    let low_fits : low < 256 = All-head (λ x. x < 256) low [] (All-tail (λ x. x < 256) high (low ∷ []) facts.1) in
    let small : high < 16 = first_digit high low word high_fits facts.0 in
    let value : 256 * high + low ≡ nac = cc number in
    let upper : nac / 256 ≡ high = omega arith in
    let lower : nac % 256 ≡ low = omega arith in
    (ap₂ (λ h l. drop 1 (encode_lower (h ∷ l ∷ []))) upper lower ∙ ap (drop 1) facts.0, omega arith)
nac_from word octets nac found number = cc number

-- a word that decodes to a network access code is its text
pub nac_in-text : (word : List ℕ) (nac : ℕ) → nac_in word ≡ Some nac → (three_digits nac ≡ word) × (nac < 4096)
nac_in-text word nac found = nac_from word (octets_in 2 (48 ∷ word)) nac refl found

-- the octets of a word of three, one by one
three_octets : (word : List ℕ) → length word ≡ 3 → get_or word 0 0 ∷ get_or word 1 0 ∷ get_or word 2 0 ∷ [] ≡ word
three_octets (a ∷ b ∷ c ∷ []) same = refl
three_octets word same = absurd (omega arith)

-- the network access code that a word of three is
pub nac_in-three : (word : List ℕ) → length word ≡ 3 → nac_in word ≡ number_in (octets_in 2 (48 ∷ get_or word 0 0 ∷ get_or word 1 0 ∷ get_or word 2 0 ∷ []))
nac_in-three word same = ap (λ w. number_in (octets_in 2 (48 ∷ w))) (sym (three_octets word same))

pub number_of_two : (octets : List ℕ) → length octets ≡ 2 → number_in (Some octets) ≡ Some (get_or octets 0 0 * 256 + get_or octets 1 0)
number_of_two (a ∷ b ∷ []) same = let turned : 256 * a + b ≡ a * 256 + b = omega arith in ap Some turned
number_of_two octets same = absurd (omega arith)

-- ---- octets of which there may be none

pub octets_or_none-none : (count : ℕ) (word : List ℕ) → count ≡ 0 → octets_or_none count word ≡ cond (bytes_eq word dash) (Some []) None
octets_or_none-none count word same = cond-true (count == 0) (cond (bytes_eq word dash) (Some []) None) (octets_in count word) (eq-eqb count 0 same)

pub octets_or_none-some : (count : ℕ) (word : List ℕ) → (count ≡ 0 → ⊥) → octets_or_none count word ≡ octets_in count word
octets_or_none-some count word other = cond-false (count == 0) (cond (bytes_eq word dash) (Some []) None) (octets_in count word) (ne_eqb count 0 other)

-- they are read from their text
pub octets_or_none-text : (count : ℕ) (octets : List ℕ) → AllOctets octets → length octets ≡ count → octets_or_none count (octets_text octets) ≡ Some octets
octets_or_none-text count [] fits same = octets_or_none-none count dash (sym same)
octets_or_none-text count (octet ∷ octets) fits same =
    octets_or_none-some count (encode_lower (octet ∷ octets)) (λ none. omega arith) ∙ octets_in-encode_lower count (octet ∷ octets) fits same

some_text : (octets : List ℕ) (count : ℕ) → length octets ≡ count → (count ≡ 0 → ⊥) → octets_text octets ≡ encode_lower octets
some_text [] count same other = absurd (other (sym same))
some_text (octet ∷ octets) count same other = refl

-- a word that decodes to them is their text
pub text-octets_or_none : (count : ℕ) (word octets : List ℕ) → octets_or_none count word ≡ Some octets → (octets_text octets ≡ word) × AllOctets octets × (length octets ≡ count)
text-octets_or_none count word octets found =
    let empty : List ℕ = [] in
    elim (eqb_tells count 0) [
      | inl none ↦
          let read = sym (octets_or_none-none count word none.1) ∙ found in
          elim (cases_Bool (bytes_eq word dash)) [
            | inl same_dash ↦
                let taken = cond-true (bytes_eq word dash) (Some empty) None same_dash in
                let same : empty ≡ octets = cc in
                subst (λ (o : List ℕ). (octets_text o ≡ word) × AllOctets o × (length o ≡ count)) same (sym ((bytes_eq-Decides word dash).0 same_dash), All-nil (λ o. o < 256), sym none.1)
            | inr other ↦ let taken = cond-false (bytes_eq word dash) (Some empty) None other in cc
          ]
      | inr some ↦
          let facts = octets_in-text count word octets (sym (octets_or_none-some count word some.1) ∙ found) in
          (some_text octets count facts.2 some.1 ∙ facts.0, facts.1, facts.2)
    ]

-- octets up to a number, if they are as many as required
pub octets_or_none-found : (most count : ℕ) (word octets : List ℕ) → octets_up_to most word ≡ Some octets → length octets ≡ count → octets_or_none count word ≡ Some octets
octets_or_none-found most count word octets found same =
    let text = text-octets_up_to most word octets found in
    ap (octets_or_none count) (sym text.text) ∙ octets_or_none-text count octets text.fits same

pub octets_or_none-other : (most count : ℕ) (word : List ℕ) (read : Option (List ℕ)) → count ≤ most → octets_or_none count word ≡ read
    → ((octets : List ℕ) → octets_up_to most word ≡ Some octets → length octets ≡ count → ⊥) → octets_or_none count word ≡ None
octets_or_none-other most count word None few read other = read
octets_or_none-other most count word (Some octets) few read other =
    let text = text-octets_or_none count word octets read in
    absurd (other octets (ap (octets_up_to most) (sym text.0) ∙ octets_up_to-text most octets (omega (arith, text.2)) text.1) text.2)
