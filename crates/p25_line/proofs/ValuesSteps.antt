-- The value of a word that decodes to one: the octets or the number whose text it is, and why any other word is no such text.
use Rattle.std.proofs.{Common.{◌≡◌, ℕ, ◌*◌, ◌^◌, ◌<◌, true, false, List, length, decimal, Result, Ok, sym, subst, ◌∙◌}, lemmas.Bool.{true≢false}, lemmas.Fmt.{parse-decimal, IsAscii-decimal}}
use Rattle.std.proofs.{lemmas.Slice.Eq.{bytes_eq-Decides}, lemmas.Str.{IsUtf8-from_ascii}}
use Rattle.std.specs.{List.{list_all}, Str.{IsUtf8, bytes_eq}, Str.Parse.{ParsesUnsigned}}
use Rattle.hex.specs.Hex.{encode_lower, decode_sized}
use Rattle.hex.proofs.HexLemmas.{length-encode_with, decode_sized-encode_lower}
use Rattle.p25_line.specs.Values.{AllOctets, is_lower_digit, octets_of}
use Rattle.p25_line.proofs.HexLaws.{list_all-encode_lower, octets_of-facts, IsBytes-AllOctets}

-- a text of octets has twice their number of digits
pub other-length : (word octets : List ℕ) (n : ℕ) → (length word ≡ 2 * n → ⊥) → length octets ≡ n → encode_lower octets ≡ word → ⊥
other-length word octets n other same text = other (rw (← text, length-encode_with, same))

pub other-digits : (word octets : List ℕ) → list_all is_lower_digit word ≡ false → AllOctets octets → encode_lower octets ≡ word → ⊥
other-digits word octets other fits text = true≢false (cc (list_all-encode_lower octets fits, text, other))

-- the octets that the kit's decoder reads from digits
pub decode_sized-word : (word : List ℕ) (n : ℕ) → length word ≡ 2 * n → list_all is_lower_digit word ≡ true → decode_sized word n ≡ Ok (octets_of word)
decode_sized-word word n even digits =
    let facts = octets_of-facts n word even digits in
    cc (facts.0, decode_sized-encode_lower (octets_of word) n facts.2 (IsBytes-AllOctets (octets_of word) facts.1))

-- a text of a number is UTF-8
pub decimal-utf8 : (word : List ℕ) (number : ℕ) → number < 2 ^ 64 → decimal number ≡ word → IsUtf8 word
decimal-utf8 word number fits text = subst IsUtf8 text (IsUtf8-from_ascii (decimal number) (IsAscii-decimal number fits))

-- the number that is parsed from its text is the number
pub parsed-number : {E : Type 0} (word text : List ℕ) (number : ℕ) (result : Result ℕ E) → number < 2 ^ 64 → decimal number ≡ word → text ≡ word
    → ParsesUnsigned 64 10 text result → result ≡ Ok number
parsed-number word text number result fits same here parsed = parse-decimal 64 number text result fits fits (here ∙ sym same) parsed

-- two equal texts compare as equal
pub equal-texts : (a b : List ℕ) → a ≡ b → bytes_eq a b ≡ false → ⊥
equal-texts a b same other = true≢false (sym ((bytes_eq-Decides a b).1 same) ∙ other)
