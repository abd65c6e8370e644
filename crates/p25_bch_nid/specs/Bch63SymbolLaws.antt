-- Symbols that are bits: codewords of bits as codewords of the Reed-Solomon code (63,41).
use Rattle.std.specs.{Prelude.{◌≡◌, ◌==◌, Bool, true, false, List, [], ◌∷◌, map, refl}, Bool.{beq}}
use Rattle.std.proofs.{Common.{ap, sym, ◌∙◌, lit≤, lit<}, lemmas.Bool.{false_from_ne_true}, lemmas.List.{length-map}}
use Rattle.p25_bits.specs.Distance.{distance_by, distance_of}
use Rattle.p25_gf64.specs.{declared.symbol.Sym.{Sym}, Symbol.{number}, Gf64.{gf64}}
use Rattle.p25_gf64.proofs.SymbolLaws.{number_zero, number_one, same_from_eq}
use Rattle.p25_reed_solomon.specs.BitValues.{bit_coefficient}
use Rattle.p25_bch_nid.specs.Bch63.{IsBch63, symbols_of}
use Rattle.p25_reed_solomon.specs.{Words.{IsCode, IsWord, same_symbols}, DistanceLaws.{same_symbols-same}}

-- symbols as bits: 1 is 1, and every other is 0
abbrev pub bits_in : List Sym → List Bool
bits_in symbols = map (λ symbol. number symbol == 1) symbols

-- the bit of a bit's symbol is that bit
pub bits_in-symbols_of : (bits : List Bool) → bits_in (symbols_of bits) ≡ bits
bits_in-symbols_of [] = refl
bits_in-symbols_of (bit ∷ bits) = cc (again bit, bits_in-symbols_of bits)
  where
    again : (bit : Bool) → (number (bit_coefficient gf64 bit) == 1) ≡ bit
    again true = ap (λ n. n == 1) number_one
    again false = ap (λ n. n == 1) number_zero

-- the symbols of two bits compare as the bits do
compares : (x y : Bool) → same_symbols (bit_coefficient gf64 x) (bit_coefficient gf64 y) ≡ beq x y
compares true true = same_symbols-same gf64.one
compares false false = same_symbols-same gf64.zero
compares true false = false_from_ne_true _ (λ test. gf64.laws.one_ne_zero (same_from_eq gf64.one gf64.zero test))
compares false true = false_from_ne_true _ (λ test. gf64.laws.one_ne_zero (sym (same_from_eq gf64.zero gf64.one test)))

-- so the distance of words of bits is that of their symbols
pub distance_of_symbols : (v w : List Bool) → distance_by same_symbols (symbols_of v) (symbols_of w) ≡ distance_of v w
unfolding distance_by
distance_of_symbols (x ∷ v) (y ∷ w) = cc (compares x y, distance_of_symbols v w)
distance_of_symbols v w = refl

-- 63 and 41 make a Reed-Solomon code
pub IsCode-63_41 : IsCode 63 41
IsCode-63_41 = record { places = lit≤ tt; some = lit≤ tt; shorter = lit< tt; even = refl; few = lit≤ tt }

-- bits are a codeword if and only if their symbols are one of the Reed-Solomon code
pub IsWord-symbols_of : (bits : List Bool) → IsBch63 bits → IsWord 63 41 (symbols_of bits)
IsWord-symbols_of bits is = record { long = length-map bits (bit_coefficient gf64) ∙ is.long; vanishes = is.vanishes }

pub IsBch63-from_symbols : (bits : List Bool) → IsWord 63 41 (symbols_of bits) → IsBch63 bits
IsBch63-from_symbols bits is = record { long = sym (length-map bits (bit_coefficient gf64)) ∙ is.long; vanishes = is.vanishes }
