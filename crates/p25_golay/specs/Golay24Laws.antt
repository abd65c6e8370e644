-- The laws of the Golay code (24,12).
use Rattle.std.specs.Prelude.{◌≡◌, ℕ, ◌<◌, ◌≤◌, ◌^◌, ◌+◌, ◌*◌, ◌%◌, ◌++◌, Bool, true, List, [], ◌∷◌, length, Option, take, drop, map, bit_xor, refl, false}
use Rattle.std.specs.Int.Bits.{xor_zero_r}
use Rattle.std.proofs.{Common.{arith, ap, ap₂, sym, ◌∙◌, take-append-drop}, lemmas.List.{length-take-le}}
use Rattle.p25_bits.specs.{Bits.{bits_of}, Divisible.{HasDegree}}
use Rattle.p25_code.specs.{Binary.{IsChecked, check_columns, systematic, syndrome_of, weight_of}, WrongBits.{number_sum}}
use Rattle.p25_code.specs.CodeLaws.{IsSystematic, SystematicCode, is_heavy, all_bits}
use Rattle.p25_code.proofs.{SyndromeLaws.{syndrome_of-append}, BinaryLaws.{length_checked}, SystematicLaws.{is_checked_code}}
use Rattle.p25_code.proofs.RemainderLaws.{power_remainder, remainders, remainders-divisible, divisible-remainders}
use Rattle.p25_code.proofs.ParityLaws.{mixed_passes, with_parity, syndrome_of-with_parity}
use Rattle.p25_golay.specs.Golay24.{check_rows, IsGolay24}

-- every codeword but that of zeros has at least eight ones
heavy : all_bits 12 (is_heavy check_rows 12 8) ≡ true
unfolding all_bits is_heavy systematic syndrome_of weight_of bits_of
heavy = refl

-- so the tests of the table hold
pub table : IsSystematic check_rows 24 12 8
table = record { rows_long = refl; fit = refl; heavy = heavy; begins = omega arith; few = omega arith; few_checks = omega arith; some = omega arith }

-- the generator is of this degree
generator_degree : HasDegree 0xC75 11
generator_degree = record { highest = omega arith; none_above = omega arith }

-- the generator is not a constant
not_constant : 1 < 2 ^ 11
not_constant = omega arith

-- the checks of the definition: the remainder of the first 23 positions, and the parity of all
stated_columns : List ℕ
stated_columns = map with_parity (remainders 0xC75 11 23 ++ 0 ∷ [])

-- the parity of the check bits is added to the parity, or subtracted
mix : List ℕ
mix = 0x801 ∷ 0x401 ∷ 0x201 ∷ 0x101 ∷ 0x081 ∷ 0x041 ∷ 0x021 ∷ 0x011 ∷ 0x009 ∷ 0x005 ∷ 0x003 ∷ 0x001 ∷ []

-- so the columns of the matrix are sums of the stated ones, and conversely
matrix-stated : map (number_sum mix) stated_columns ≡ check_rows ++ check_columns 12
unfolding stated_columns mix number_sum syndrome_of bits_of check_columns remainders power_remainder
matrix-stated = refl

stated-matrix : map (number_sum mix) (check_rows ++ check_columns 12) ≡ stated_columns
unfolding stated_columns mix number_sum syndrome_of bits_of check_columns remainders power_remainder
stated-matrix = refl

length-remainders : length (remainders 0xC75 11 23) ≡ 23
unfolding remainders
length-remainders = refl

length-stated : length (remainders 0xC75 11 23 ++ 0 ∷ []) ≡ 24
unfolding remainders
length-stated = refl

-- a position without checks adds nothing
no_checks : (bits : List Bool) → syndrome_of (0 ∷ []) bits ≡ 0
unfolding syndrome_of
no_checks (false ∷ bits) = refl
no_checks bits = refl

-- the last position takes no part in the remainder
remainder_sum : (word : List Bool) → length word ≡ 24
    → syndrome_of (remainders 0xC75 11 23 ++ 0 ∷ []) word ≡ syndrome_of (remainders 0xC75 11 (length (take 23 word))) (take 23 word)
remainder_sum word long =
    let columns = remainders 0xC75 11 23 in
    let inside : 23 ≤ length word = omega arith in
    let beginning = length-take-le 23 word inside in
    ap (syndrome_of (columns ++ 0 ∷ [])) (sym (take-append-drop 23 word))
    ∙ syndrome_of-append columns (0 ∷ []) (take 23 word) (drop 23 word) (beginning ∙ sym length-remainders)
    ∙ ap (bit_xor (syndrome_of columns (take 23 word))) (no_checks (drop 23 word))
    ∙ xor_zero_r (syndrome_of columns (take 23 word))
    ∙ ap (λ n. syndrome_of (remainders 0xC75 11 n) (take 23 word)) (sym beginning)

-- the sum by the stated columns: the remainder, and whether the weight is odd
stated_sum : (word : List Bool) → length word ≡ 24
    → syndrome_of stated_columns word ≡ 2 * syndrome_of (remainders 0xC75 11 (length (take 23 word))) (take 23 word) + weight_of word % 2
unfolding stated_columns
stated_sum word long =
    syndrome_of-with_parity (remainders 0xC75 11 23 ++ 0 ∷ []) word (long ∙ sym length-stated)
    ∙ ap (λ n. 2 * n + weight_of word % 2) (remainder_sum word long)

-- the codewords pass the check matrix
pub to_checked : (word : List Bool) → IsGolay24 word → IsChecked (check_rows ++ check_columns 12) word
unfolding check_columns
to_checked word is =
    let none = remainders-divisible generator_degree not_constant (take 23 word) is.divisible in
    let passes : syndrome_of stated_columns word ≡ 0 = stated_sum word is.long ∙ ap₂ (λ m n. 2 * m + n) none is.even in
    record {
      long = is.long;
      passes = ap (λ cs. syndrome_of cs word) (sym matrix-stated) ∙ mixed_passes mix stated_columns word passes;
    }

-- words that pass the check matrix are codewords
pub from_checked : (word : List Bool) → IsChecked (check_rows ++ check_columns 12) word → IsGolay24 word
from_checked word is =
    let long = length_checked table word is in
    let passes = ap (λ cs. syndrome_of cs word) (sym stated-matrix) ∙ mixed_passes mix (check_rows ++ check_columns 12) word is.passes in
    let stated = sym (stated_sum word long) ∙ passes in
    let none : syndrome_of (remainders 0xC75 11 (length (take 23 word))) (take 23 word) ≡ 0 = omega arith in
    let even : weight_of word % 2 ≡ 0 = omega arith in
    record { long = long; even = even; divisible = divisible-remainders generator_degree not_constant (take 23 word) none }

-- the code, by its check bits
abbrev pub golay24_code : SystematicCode 24 12 8
golay24_code = record { rows = check_rows; IsWord = IsGolay24; is = is_checked_code table to_checked from_checked }

-- the codeword within 3 bits of the received word, or none
abbrev pub golay24_reading_of : List Bool → Option (List Bool)
golay24_reading_of = golay24_code.is.reading
