-- Octets that represent symbols.
use Rattle.std.proofs.{Common.{◌≡◌, ℕ, ◌<◌, List, [], ◌∷◌, All, map, take, get_or, Option, ℤ, pos, negsuc, refl, ap, ap₂, sym, ◌∙◌, subst}, lemmas.List.Elements.{All-map}}
use Rattle.std.specs.Prelude.{unwrap_or}
use Rattle.p25_code.specs.{declared.code.Reading.{Reading}, Readings.{word_read}}
use Rattle.p25_gf64.specs.{declared.symbol.Sym.{Sym}, Symbol.{number, same_symbol}}
use Rattle.p25_reed_solomon.specs.{Encoding.{rs_word}, Words.{same_symbols}}
use Rattle.p25_c.specs.{Answers.{fixes_answer, reading_answer}, Symbols.{IsSymbolReading, IsSymbolWriting}}
use Rattle.p25_c.proofs.AnswerSteps.{IsChange, change_answer, change_word}

-- symbols with the same numbers are the same
pub same_from_numbers : (xs ys : List Sym) → map number xs ≡ map number ys → xs ≡ ys
same_from_numbers [] [] same = refl
same_from_numbers (x ∷ xs) (y ∷ ys) same =
    let first : number x ≡ number y = cc in
    let rest : map number xs ≡ map number ys = cc in
    ap₂ (λ (s : Sym) (ss : List Sym). s ∷ ss) (same_symbol x y first) (same_from_numbers xs ys rest)
same_from_numbers xs ys same = cc

-- octets that name symbols are below 64
pub below_from_named : (symbols : List Sym) (octets : List ℕ) → map number symbols ≡ octets → All (λ octet. octet < 64) octets
below_from_named symbols octets named =
    let below : All (λ s. number s < 64) symbols = λ k d lt. (get_or symbols k d).below in
    subst (λ (os : List ℕ). All (λ octet. octet < 64) os) named (All-map (λ octet. octet < 64) number symbols below)

-- the decoding of octets that name symbols
pub symbols_read : (reading_is : List Sym → Option (List Sym)) (octets left : List ℕ) (received word : List Sym) (reading : Reading) (answer : ℤ) → map number received ≡ octets
    → IsChange same_symbols received word reading → word_read reading word ≡ reading_is received → left ≡ map number word → answer ≡ reading_answer reading
    → IsSymbolReading reading_is octets left answer
symbols_read reading_is octets left received word reading answer named change value puts is = record {
  answered = λ other called. subst (λ ss. answer ≡ fixes_answer same_symbols ss (reading_is ss))
      (one other called) (is ∙ change_answer same_symbols received word reading (reading_is received) change value);
  read =
      λ other called. subst (λ ss. left ≡ map number (unwrap_or (reading_is ss) ss)) (one other called)
      (puts ∙ ap (map number) (change_word same_symbols received word reading (reading_is received) change value));
  refused = λ other. absurd (other (below_from_named received octets named));
}
  where
    one : (other : List Sym) → map number other ≡ octets → received ≡ other
    one other called = same_from_numbers received other (named ∙ sym called)

-- octets of which one names no symbol are left
pub symbols_refused : (reading_is : List Sym → Option (List Sym)) (octets : List ℕ) → ¬ All (λ octet. octet < 64) octets → IsSymbolReading reading_is octets octets (negsuc 1)
symbols_refused reading_is octets none = record {
  answered = λ received named. absurd (none (below_from_named received octets named));
  read = λ received named. absurd (none (below_from_named received octets named));
  refused = λ other. (refl, refl);
}

-- the codeword for an information that octets name
pub symbols_written : (n k : ℕ) (octets left : List ℕ) (info word : List Sym) → map number info ≡ take k octets → word ≡ rs_word n k info
    → left ≡ map number word → IsSymbolWriting n k octets left (pos 0)
symbols_written n k octets left info word named is puts = record {
  written = λ other called. (refl, rw (puts, is, one other called) refl);
  refused = λ other. absurd (other (below_from_named info (take k octets) named));
}
  where
    one : (other : List Sym) → map number other ≡ take k octets → info ≡ other
    one other called = same_from_numbers info other (named ∙ sym called)

-- octets of which one of the first k names no symbol are left
pub writing_refused : (n k : ℕ) (octets : List ℕ) → ¬ All (λ octet. octet < 64) (take k octets) → IsSymbolWriting n k octets octets (negsuc 1)
writing_refused n k octets none = record {
  written = λ info named. absurd (none (below_from_named info (take k octets) named));
  refused = λ other. (refl, refl);
}
