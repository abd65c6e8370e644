-- The laws of the code (16,8) of the low speed data.
use Rattle.std.specs.Prelude.{◌≡◌, ◌<◌, ◌^◌, ◌++◌, Bool, true, List, length, Option, refl}
use Rattle.std.proofs.Common.{arith, ap, sym, ◌∙◌}
use Rattle.p25_bits.specs.{Bits.{bits_of}, Divisible.{HasDegree}}
use Rattle.p25_code.specs.{Binary.{IsChecked, check_columns, systematic, syndrome_of, weight_of}, CodeLaws.{IsSystematic, SystematicCode, is_heavy, all_bits}}
use Rattle.p25_code.proofs.{BinaryLaws.{length_checked}, SystematicLaws.{is_checked_code}}
use Rattle.p25_code.proofs.RemainderLaws.{power_remainder, remainders, remainders-divisible, divisible-remainders}
use Rattle.p25_hamming.specs.Lsd16.{check_rows, IsLsd16}

-- with the check columns they are the remainders of x^15 to x^0
columns-remainders : check_rows ++ check_columns 8 ≡ remainders 0x139 8 16
unfolding check_columns remainders power_remainder
columns-remainders = refl

-- the generator is of this degree
generator_degree : HasDegree 0x139 8
generator_degree = record { highest = omega arith; none_above = omega arith }

-- every codeword but that of zeros has at least five ones
heavy : all_bits 8 (is_heavy check_rows 8 5) ≡ true
unfolding all_bits is_heavy systematic syndrome_of weight_of bits_of
heavy = refl

-- so the tests of the table hold
pub table : IsSystematic check_rows 16 8 5
table = record { rows_long = refl; fit = refl; heavy = heavy; begins = omega arith; few = omega arith; few_checks = omega arith; some = omega arith }

-- the generator is not a constant
not_constant : 1 < 2 ^ 8
not_constant = omega arith

-- a word of sixteen bits has the syndrome 0 by the columns if and only if it has the syndrome 0 by the remainders
same_sum : (word : List Bool) → length word ≡ 16 → syndrome_of (check_rows ++ check_columns 8) word ≡ syndrome_of (remainders 0x139 8 (length word)) word
same_sum word long = ap (λ cs. syndrome_of cs word) columns-remainders ∙ ap (λ n. syndrome_of (remainders 0x139 8 n) word) (sym long)

-- the codewords pass the check matrix
pub to_checked : (word : List Bool) → IsLsd16 word → IsChecked (check_rows ++ check_columns 8) word
unfolding check_columns
to_checked word is = record { long = is.long; passes = same_sum word is.long ∙ remainders-divisible generator_degree not_constant word is.divisible }

-- words that pass the check matrix are codewords
pub from_checked : (word : List Bool) → IsChecked (check_rows ++ check_columns 8) word → IsLsd16 word
from_checked word is =
    let long = length_checked table word is in
    record { long = long; divisible = divisible-remainders generator_degree not_constant word (sym (same_sum word long) ∙ is.passes) }

-- the code, by its check bits
abbrev pub lsd16_code : SystematicCode 16 8 5
lsd16_code = record { rows = check_rows; IsWord = IsLsd16; is = is_checked_code table to_checked from_checked }

-- the codeword within 2 bits of the received word, or none
abbrev pub lsd16_reading_of : List Bool → Option (List Bool)
lsd16_reading_of = lsd16_code.is.reading
