-- The Hamming code (10,6) of TIA-102.BAAA.
use Rattle.std.specs.Prelude.{◌≡◌, ℕ, Bool, List, [], ◌∷◌, length, take, drop}
use Rattle.p25_bits.specs.Bits.{bits_of}
use Rattle.p25_code.specs.Binary.{syndrome_of, systematic}

-- the check bits of the six messages with a single 1, in order, as numbers of four bits
abbrev pub check_rows : List ℕ
check_rows = 0b1110 ∷ 0b1101 ∷ 0b1011 ∷ 0b0111 ∷ 0b0011 ∷ 0b1100 ∷ []

-- ten bits, the last four of which are the sum over GF(2) of the rows of those of the first six that are 1
pub record IsHamming10 (word : List Bool) : Type 0 where
  pub long : length word ≡ 10
  pub checks : drop 6 word ≡ bits_of 4 (syndrome_of check_rows (take 6 word))

-- the codeword of six bits of information: these, and their check bits
abbrev pub hamming10_word : List Bool → List Bool
hamming10_word = systematic check_rows 4
