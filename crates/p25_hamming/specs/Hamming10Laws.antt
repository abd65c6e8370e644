-- The laws of the Hamming code (10,6).
use Rattle.std.specs.Prelude.{◌≡◌, ◌++◌, Bool, true, List, Option, refl}
use Rattle.p25_code.specs.{Binary.{IsChecked, check_columns, systematic, syndrome_of, weight_of}, CodeLaws.{IsSystematic, SystematicCode, is_heavy, all_bits}}
use Rattle.p25_code.proofs.{BinaryLaws.{sum_checked, checked_sum, length_checked}, SystematicLaws.{is_checked_code}}
use Rattle.std.proofs.Common.{arith}
use Rattle.p25_bits.specs.Bits.{bits_of}
use Rattle.p25_hamming.specs.Hamming10.{check_rows, IsHamming10}

-- every codeword but that of zeros has at least three ones
heavy : all_bits 6 (is_heavy check_rows 4 3) ≡ true
unfolding all_bits is_heavy systematic syndrome_of weight_of bits_of
heavy = refl

-- so the tests of the table hold
pub table : IsSystematic check_rows 10 6 3
table = record { rows_long = refl; fit = refl; heavy = heavy; begins = omega arith; few = omega arith; few_checks = omega arith; some = omega arith }

-- the codewords pass the check matrix
pub to_checked : (word : List Bool) → IsHamming10 word → IsChecked (check_rows ++ check_columns 4) word
to_checked word is = sum_checked table word is.long is.checks

-- words that pass the check matrix are codewords
pub from_checked : (word : List Bool) → IsChecked (check_rows ++ check_columns 4) word → IsHamming10 word
from_checked word is = record { long = length_checked table word is; checks = checked_sum table word is }

-- the code, by its check bits
abbrev pub hamming10_code : SystematicCode 10 6 3
hamming10_code = record { rows = check_rows; IsWord = IsHamming10; is = is_checked_code table to_checked from_checked }

-- the codeword within 1 bit of the received word, or none
abbrev pub hamming10_reading_of : List Bool → Option (List Bool)
hamming10_reading_of = hamming10_code.is.reading
