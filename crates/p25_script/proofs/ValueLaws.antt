-- Messages and positions are read from their texts, and a word that decodes to one is its text. By cases on the result of each test.
use Rattle.std.proofs.Common.{◌≡◌, ℕ, ◌+◌, ◌*◌, ◌^◌, ◌<◌, ◌≤◌, ◌==◌, ◌&&◌, ◌||◌, Bool, true, false, List, [], ◌∷◌, length, map, decimal, Option, Some, None, inl, inr, refl, sym, ap, ap₂, ◌∙◌, arith, length-append}
use Rattle.std.proofs.{lemmas.Bool.{and_parts, cases_Bool, cond-true, cond-false, lt-ltb, true≢false}, lemmas.Fmt.{decimal_nonempty, digits_decimal, length-decimal-le}}
use Rattle.std.proofs.{lemmas.List.Elements.{All-nil, All-cons, All-head, All-tail}, lemmas.List.Folds.{list_all-append}, lemmas.Slice.Eq.{bytes_eq-Decides}}
use Rattle.std.proofs.lemmas.Str.Parse.{numerals_by_value, tells_all_ascii_digits}
use Rattle.std.specs.{Prelude.{All}, Char.{is_ascii_digit}, List.{join_with_byte, list_all}, Str.{all_ascii_digits, bytes_eq}}
use Rattle.p25_line.specs.{Octets.{octets_text}, Words.{is_printed, is_word}, CommaLists.{comma_text, dash, list_in}}
use Rattle.p25_line.proofs.{NumberLaws.{decimal-number_below, number_below-decimal}, OctetsLaws.{length-octets_text, octets-word, octets_up_to-text, text-octets_up_to}, JoinLaws.{Lacks}}
use Rattle.p25_line.proofs.CommaListLaws.{AllFit, EntryLaws, list_in-text, text-list_in}
use Rattle.p25_delivery.specs.SoundHalves.{IsMessage}
use Rattle.p25_script.specs.Values.{ArePlaces, is_ascending, message_in, place_in, places_in, places_text, where_ascending}
use Rattle.p25_script.proofs.PlacesLaws.{increasing-is_ascending, is_ascending-increasing}

-- ---- messages

pub message_in-text : (message : List ℕ) → IsMessage message → message_in (octets_text message) ≡ Some message
message_in-text message fits = octets_up_to-text 2028 message fits.short fits.octets

pub message-message_in : (word message : List ℕ) → message_in word ≡ Some message → (octets_text message ≡ word) × IsMessage message
message-message_in word message found =
    let is = text-octets_up_to 2028 word message found in
    (is.text, record { short = is.few; octets = is.fits })

pub message-word : (message : List ℕ) → IsMessage message → is_word (octets_text message) ≡ true
message-word message fits = octets-word message fits.octets

pub length-message_text : (message : List ℕ) → IsMessage message → length (octets_text message) ≤ 4056
length-message_text message fits = length-octets_text 2028 message (omega arith) fits.short

-- ---- positions

-- the text of a number has digits alone
decimal-digits : (number : ℕ) → number < 2 ^ 64 → all_ascii_digits (decimal number) ≡ true
decimal-digits number fits = digits_decimal (numerals_by_value (λ ds. all_ascii_digits ds ≡ true) tells_all_ascii_digits) number fits

digit-comma : (octet : ℕ) → is_ascii_digit octet ≡ true → (octet == 44) ≡ false
digit-comma octet digit = grind arith

digits-comma : (octets : List ℕ) → all_ascii_digits octets ≡ true → Lacks 44 octets
digits-comma [] digits = All-nil (λ octet. (octet == 44) ≡ false)
digits-comma (octet ∷ octets) digits =
    let parts = and_parts (is_ascii_digit octet) (all_ascii_digits octets) digits in
    All-cons (λ o. (o == 44) ≡ false) octet octets (digit-comma octet parts.0) (digits-comma octets parts.1)

pub place_in-decimal : (place : ℕ) → place < 25920 → place_in (decimal place) ≡ Some place
place_in-decimal place below = number_below-decimal 25920 place below (omega arith)

-- the laws of each position
pub place_laws : EntryLaws decimal place_in (λ place. place < 25920) all_ascii_digits
place_laws = record {
  lacks = digits-comma;
  written = λ place below. decimal-digits place (omega (arith, below));
  back = place_in-decimal;
  again = decimal-number_below 25920;
}

all-fit : (places : List ℕ) → All (λ place. place < 25920) places → AllFit (λ place. place < 25920) places
all-fit [] below = tt
all-fit (place ∷ places) below = (All-head (λ p. p < 25920) place places below, all-fit places (All-tail (λ p. p < 25920) place places below))

fit-all : (places : List ℕ) → AllFit (λ place. place < 25920) places → All (λ place. place < 25920) places
fit-all [] fits = All-nil (λ place. place < 25920)
fit-all (place ∷ places) fits = All-cons (λ p. p < 25920) place places fits.0 (fit-all places fits.1)

-- an octet of a list of numbers: a digit or a comma
abbrev is_mark : ℕ → Bool
is_mark octet = (octet == 44) || is_ascii_digit octet

mark-digit : (octet : ℕ) → is_ascii_digit octet ≡ true → is_mark octet ≡ true
mark-digit octet digit = grind arith

mark-printed : (octet : ℕ) → is_mark octet ≡ true → is_printed octet ≡ true
mark-printed octet mark = grind arith

marks-digits : (octets : List ℕ) → all_ascii_digits octets ≡ true → list_all is_mark octets ≡ true
marks-digits [] digits = refl
marks-digits (octet ∷ octets) digits =
    let parts = and_parts (is_ascii_digit octet) (all_ascii_digits octets) digits in
    ap₂ ◌&&◌ (mark-digit octet parts.0) (marks-digits octets parts.1)

marks-printed : (octets : List ℕ) → list_all is_mark octets ≡ true → list_all is_printed octets ≡ true
marks-printed [] marks = refl
marks-printed (octet ∷ octets) marks =
    let parts = and_parts (is_mark octet) (list_all is_mark octets) marks in
    ap₂ ◌&&◌ (mark-printed octet parts.0) (marks-printed octets parts.1)

joined-marks : (places : List ℕ) → AllFit (λ place. place < 25920) places → list_all is_mark (join_with_byte 44 (map decimal places)) ≡ true
joined-marks [] fits = refl
joined-marks (place ∷ []) fits = marks-digits (decimal place) (decimal-digits place (omega (arith, fits.0)))
joined-marks (place ∷ next ∷ places) fits =
    list_all-append is_mark (decimal place) (44 ∷ join_with_byte 44 (map decimal (next ∷ places)))
    ∙ ap₂ ◌&&◌ (marks-digits (decimal place) (decimal-digits place (omega (arith, fits.0)))) (joined-marks (next ∷ places) fits.1)

-- the length of a list of numbers
joined-some : (places : List ℕ) → AllFit (λ place. place < 25920) places → 0 < length places → 0 < length (join_with_byte 44 (map decimal places))
joined-some [] fits some = absurd (omega arith)
joined-some (place ∷ []) fits some = decimal_nonempty place (omega (arith, fits.0))
joined-some (place ∷ next ∷ places) fits some = omega (arith, length-append (decimal place) (44 ∷ join_with_byte 44 (map decimal (next ∷ places))))

joined-short : (places : List ℕ) → AllFit (λ place. place < 25920) places → length (join_with_byte 44 (map decimal places)) ≤ 6 * length places
joined-short [] fits = omega arith
joined-short (place ∷ []) fits = omega (arith, length-decimal-le 5 place (omega arith) (omega (arith, fits.0)) (omega (arith, fits.0)))
joined-short (place ∷ next ∷ places) fits =
    omega (
      arith,
      length-append (decimal place) (44 ∷ join_with_byte 44 (map decimal (next ∷ places))),
      length-decimal-le 5 place (omega arith) (omega (arith, fits.0)) (omega (arith, fits.0)),
      joined-short (next ∷ places) fits.1,
    )

places-other : (places : List ℕ) → AllFit (λ place. place < 25920) places → 0 < length places → bytes_eq (places_text places) dash ≡ false
unfolding comma_text
places-other [] fits some = absurd (omega arith)
places-other (place ∷ places) fits some =
    elim (cases_Bool (bytes_eq (places_text (place ∷ places)) dash)) [
      | inl same ↦
          let text = (bytes_eq-Decides (places_text (place ∷ places)) dash).0 same in
          absurd (true≢false (sym (joined-marks (place ∷ places) fits) ∙ ap (list_all is_mark) text))
      | inr other ↦ other
    ]

-- the text of positions decodes to them
pub places_in-text : (places : List ℕ) → ArePlaces places → places_in (places_text places) ≡ Some places
places_in-text places are =
    let fits = all-fit places are.below in
    ap where_ascending (list_in-text place_laws places fits (places-other places fits))
    ∙ cond-true (is_ascending places) (Some places) None (is_ascending-increasing places are.ascending)

where_found : (made : Option (List ℕ)) (places : List ℕ) → where_ascending made ≡ Some places → (made ≡ Some places) × (is_ascending places ≡ true)
where_found None places found = cc found
where_found (Some items) places found =
    elim (cases_Bool (is_ascending items)) [
      | inl passed ↦
          let read = cond-true (is_ascending items) (Some items) None passed in
          let same : items ≡ places = cc in
          (ap Some same, ap is_ascending (sym same) ∙ passed)
      | inr failed ↦ let none = cond-false (is_ascending items) (Some items) None failed in cc
    ]

-- and a word that decodes to positions is their text
pub places-places_in : (word places : List ℕ) → places_in word ≡ Some places → (places_text places ≡ word) × ArePlaces places
places-places_in word places found =
    let made = where_found (list_in place_in word) places found in
    let facts = text-list_in place_laws word places made.0 in
    (facts.0, record { ascending = increasing-is_ascending places made.1; below = fit-all places facts.1 })

pub places-word : (places : List ℕ) → ArePlaces places → is_word (places_text places) ≡ true
unfolding comma_text
places-word [] are = refl
places-word (place ∷ places) are =
    let fits = all-fit (place ∷ places) are.below in
    ap₂ ◌&&◌ (lt-ltb 0 (length (places_text (place ∷ places))) (joined-some (place ∷ places) fits (omega arith))) (marks-printed (places_text (place ∷ places)) (joined-marks (place ∷ places) fits))

pub length-places_text : (places : List ℕ) → ArePlaces places → length (places_text places) ≤ 6 * length places + 1
unfolding comma_text
length-places_text [] are = omega arith
length-places_text (place ∷ places) are = omega (arith, joined-short (place ∷ places) (all-fit (place ∷ places) are.below))
