-- The extended Golay code (24,12) of TIA-102.BAAA.
use Rattle.std.specs.Prelude.{◌≡◌, ℕ, ◌%◌, Bool, List, [], ◌∷◌, length, take}
use Rattle.p25_bits.specs.{Bits.{field_of}, Divisible.{IsDivisible}}
use Rattle.p25_code.specs.Binary.{systematic, weight_of}

-- 24 bits of even weight, the first 23 of which, as a polynomial with the first bit highest, are divisible by x^11 + x^10 + x^6 + x^5 + x^4 + x^2 + 1
pub record IsGolay24 (word : List Bool) : Type 0 where
  pub long : length word ≡ 24
  pub even : weight_of word % 2 ≡ 0
  pub divisible : IsDivisible 0xC75 (field_of (take 23 word))

-- the check bits of the messages with a single 1, in order, as numbers of twelve bits: the remainder by the generator, then the bit that makes the
-- weight even
abbrev pub check_rows : List ℕ
check_rows = 0xC75 ∷ 0x63B ∷ 0xF68 ∷ 0x7B4 ∷ 0x3DA ∷ 0xD99 ∷ 0x6CD ∷ 0x367 ∷ 0xDC6 ∷ 0xA97 ∷ 0x93E ∷ 0x8EB ∷ []

-- the codeword of twelve bits of information: these, and their check bits
abbrev pub golay24_word : List Bool → List Bool
golay24_word = systematic check_rows 12
