-- Texts whose octets are all below 128: numbers, digits, lists with commas, and words that are joined. By tests of octets, which compute.
use Rattle.std.proofs.Common.{◌≡◌, ℕ, zero, suc, ◌/◌, ◌%◌, ◌<◌, ◌==◌, ◌&&◌, Bool, true, false, cond, List, [], ◌∷◌, ◌++◌, length, drop, map, slice_index, refl, ap₂, arith}
use Rattle.std.proofs.{lemmas.Bool.{and_parts, lt-ltb, ltb-true}, lemmas.List.Folds.{list_all-append}, lemmas.Str.Ascii.{IsAscii-cons, IsAscii-nil}}
use Rattle.std.specs.{Prelude.{IsAscii, decimal, nat_lt}, Fmt.{digit_glyph, digits, digits_onto}, List.{join_with_byte, list_all}}
use Rattle.hex.specs.Hex.{encode_lower, encode_with, lower_digits}
use Rattle.p25_line.specs.{CommaLists.{comma_text, list_text}, Octets.{octets_text}, Values.{three_digits}, Words.{is_printed, is_word}}
use Rattle.p25_line.proofs.WordsLaws.{all-also}

-- each octet is below 128
abbrev pub is_ascii : List ℕ → Bool
is_ascii text = list_all (λ octet. nat_lt octet 128) text

-- the test says it
pub IsAscii-tested : (text : List ℕ) → is_ascii text ≡ true → IsAscii text
IsAscii-tested [] all = IsAscii-nil
IsAscii-tested (octet ∷ text) all =
    let parts = and_parts (nat_lt octet 128) (is_ascii text) all in
    IsAscii-cons octet text (ltb-true octet 128 parts.0) (IsAscii-tested text parts.1)

-- one text after the other
pub ascii-append : (text more : List ℕ) → is_ascii text ≡ true → is_ascii more ≡ true → is_ascii (text ++ more) ≡ true
ascii-append text more first second = simp (list_all-append, first, second)

pub ascii-drop : (count : ℕ) (text : List ℕ) → is_ascii text ≡ true → is_ascii (drop count text) ≡ true
ascii-drop zero text all = all
ascii-drop (suc count) [] all = refl
ascii-drop (suc count) (octet ∷ text) all = ascii-drop count text (and_parts (nat_lt octet 128) (is_ascii text) all).1

-- texts after a first one, each after those before
abbrev joined : List ℕ → List (List ℕ) → List ℕ
joined text [] = text
joined text (part ∷ parts) = joined (text ++ part) parts

pub ascii-joined : (text : List ℕ) (parts : List (List ℕ)) → is_ascii text ≡ true → list_all is_ascii parts ≡ true → is_ascii (joined text parts) ≡ true
ascii-joined text [] first all = first
ascii-joined text (part ∷ parts) first all =
    let each = and_parts (is_ascii part) (list_all is_ascii parts) all in
    ascii-joined (text ++ part) parts (ascii-append text part first each.0) each.1

pub ascii-word : (word : List ℕ) → is_word word ≡ true → is_ascii word ≡ true
ascii-word word is = all-also is_printed (λ octet. nat_lt octet 128) printed-ascii word (and_parts (nat_lt 0 (length word)) (list_all is_printed word) is).1
  where
    printed-ascii : (octet : ℕ) → is_printed octet ≡ true → nat_lt octet 128 ≡ true
    printed-ascii octet printed = grind arith

-- a number in decimal
ascii-glyph : (digit : ℕ) → digit < 10 → nat_lt (digit_glyph false digit) 128 ≡ true
ascii-glyph digit below = grind arith

ascii-digits : (count number : ℕ) (text : List ℕ) → is_ascii text ≡ true → is_ascii (digits_onto count 10 false number text) ≡ true
ascii-digits zero number text all = all
ascii-digits (suc count) number text all =
    let more = ap₂ ◌&&◌ (ascii-glyph (number % 10) (omega arith)) all in
    by_test (number / 10 == 0) _ _ more (ascii-digits count (number / 10) (digit_glyph false (number % 10) ∷ text) more)
  where
    by_test : (last : Bool) (one other : List ℕ) → is_ascii one ≡ true → is_ascii other ≡ true → is_ascii (cond last one other) ≡ true
    by_test true one other first second = first
    by_test false one other first second = second

pub ascii-decimal : (number : ℕ) → is_ascii (decimal number) ≡ true
unfolding digits
ascii-decimal number = ascii-digits 64 number [] refl

-- octets in hexadecimal
ascii-digit : (nibble : ℕ) → nat_lt (slice_index lower_digits nibble) 128 ≡ true
ascii-digit nibble = lt-ltb (slice_index lower_digits nibble) 128 (IsAscii-tested lower_digits refl nibble)

pub ascii-encode_lower : (octets : List ℕ) → is_ascii (encode_lower octets) ≡ true
unfolding encode_with
ascii-encode_lower [] = refl
ascii-encode_lower (octet ∷ octets) = cc (ascii-digit (octet / 16), ascii-digit (octet % 16), ascii-encode_lower octets)

pub ascii-three_digits : (number : ℕ) → is_ascii (three_digits number) ≡ true
ascii-three_digits number = ascii-drop 1 (encode_lower (number / 256 ∷ number % 256 ∷ [])) (ascii-encode_lower (number / 256 ∷ number % 256 ∷ []))

pub ascii-octets_text : (octets : List ℕ) → is_ascii (octets_text octets) ≡ true
ascii-octets_text [] = refl
ascii-octets_text (octet ∷ octets) = ascii-encode_lower (octet ∷ octets)

-- words that are joined by an octet below 128
pub ascii-join : (separator : ℕ) → nat_lt separator 128 ≡ true → (words : List (List ℕ)) → list_all is_ascii words ≡ true → is_ascii (join_with_byte separator words) ≡ true
ascii-join separator low [] all = refl
ascii-join separator low (word ∷ []) all = (and_parts (is_ascii word) true all).0
ascii-join separator low (word ∷ next ∷ words) all =
    let parts = and_parts (is_ascii word) (list_all is_ascii (next ∷ words)) all in
    ascii-append word (separator ∷ join_with_byte separator (next ∷ words)) parts.0 (cc (low, ascii-join separator low (next ∷ words) parts.1))

-- lists whose entries have such texts
module _ {X : Type 0} (text : X → List ℕ) (each : (entry : X) → is_ascii (text entry) ≡ true) where
  pub ascii-map : (entries : List X) → list_all is_ascii (map text entries) ≡ true
  ascii-map [] = refl
  ascii-map (entry ∷ entries) = cc (each entry, ascii-map entries)

  pub ascii-comma_text : (entries : List X) → is_ascii (comma_text text entries) ≡ true
  unfolding comma_text
  ascii-comma_text entries = ascii-join 44 refl (map text entries) (ascii-map entries)

  pub ascii-list_text : (entries : List X) → is_ascii (list_text text entries) ≡ true
  ascii-list_text [] = refl
  ascii-list_text (entry ∷ entries) = ascii-comma_text (entry ∷ entries)
