-- The laws of the shortened Golay code (18,6).
use Rattle.std.specs.{Prelude.{◌≡◌, ℕ, ◌++◌, Bool, true, false, List, ◌∷◌, Option, refl}, Int.Bits.{xor_zero_l}}
use Rattle.std.proofs.Common.{arith, sym, ◌∙◌}
use Rattle.p25_bits.specs.Bits.{bits_of}
use Rattle.p25_code.specs.{Binary.{IsChecked, check_columns, systematic, syndrome_of, weight_of}, CodeLaws.{IsSystematic, SystematicCode, is_heavy, all_bits}}
use Rattle.p25_code.proofs.SystematicLaws.{is_checked_code}
use Rattle.p25_golay.specs.{Golay18.{short_rows, IsGolay18}, Golay24Laws.{golay24_code}}

-- every codeword but that of zeros has at least eight ones
heavy : all_bits 6 (is_heavy short_rows 12 8) ≡ true
unfolding all_bits is_heavy systematic syndrome_of weight_of bits_of
heavy = refl

-- so the tests of the table hold
pub table : IsSystematic short_rows 18 6 8
table = record { rows_long = refl; fit = refl; heavy = heavy; begins = omega arith; few = omega arith; few_checks = omega arith; some = omega arith }

-- a leading zero adds nothing to a sum
zero_first : (column : ℕ) (columns : List ℕ) (word : List Bool) → syndrome_of (column ∷ columns) (false ∷ word) ≡ syndrome_of columns word
unfolding syndrome_of
zero_first column columns word = xor_zero_l (syndrome_of columns word)

-- neither do six
zeros_first : (a b c d e f : ℕ) (columns : List ℕ) (word : List Bool)
    → syndrome_of (a ∷ b ∷ c ∷ d ∷ e ∷ f ∷ columns) (false ∷ false ∷ false ∷ false ∷ false ∷ false ∷ word) ≡ syndrome_of columns word
zeros_first a b c d e f columns word = simp zero_first

-- the codewords pass the last columns of the check matrix
pub to_short : (word : List Bool) → IsGolay18 word → IsChecked (short_rows ++ check_columns 12) word
unfolding check_columns
to_short word is =
    let whole = golay24_code.is.passes _ is.in_golay24 in
    record {
      long = omega (arith, whole.long);
      passes = sym (zeros_first 0xC75 0x63B 0xF68 0x7B4 0x3DA 0xD99 (short_rows ++ check_columns 12) word) ∙ whole.passes;
    }

-- words that pass the short check matrix are codewords
pub from_short : (word : List Bool) → IsChecked (short_rows ++ check_columns 12) word → IsGolay18 word
unfolding check_columns
from_short word is = record {
  in_golay24 = golay24_code.is.passing _ (record {
    long = omega (arith, is.long);
    passes = zeros_first 0xC75 0x63B 0xF68 0x7B4 0x3DA 0xD99 (short_rows ++ check_columns 12) word ∙ is.passes;
  });
}

-- the code, by its check bits
abbrev pub golay18_code : SystematicCode 18 6 8
golay18_code = record { rows = short_rows; IsWord = IsGolay18; is = is_checked_code table to_short from_short }

-- the codeword within 3 bits of the received word, or none
abbrev pub golay18_reading_of : List Bool → Option (List Bool)
golay18_reading_of = golay18_code.is.reading
