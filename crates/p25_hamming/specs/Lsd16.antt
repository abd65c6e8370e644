-- The code (16,8) of the low speed data (LSD) of TIA-102.BAAA, a shortened cyclic code.
use Rattle.std.specs.Prelude.{◌≡◌, ℕ, Bool, List, [], ◌∷◌, length}
use Rattle.p25_bits.specs.{Bits.{field_of}, Divisible.{IsDivisible}}
use Rattle.p25_code.specs.Binary.{systematic}

-- a codeword of the low speed data (LSD): sixteen bits whose polynomial, the first bit highest, is divisible by x^8 + x^5 + x^4 + x^3 + 1
pub record IsLsd16 (word : List Bool) : Type 0 where
  pub long : length word ≡ 16
  pub divisible : IsDivisible 0x139 (field_of word)

-- the remainders of x^15 to x^8 by the generator: the check bits of the messages with a single 1, in order, as numbers of eight bits
abbrev pub check_rows : List ℕ
check_rows = 0x4E ∷ 0x27 ∷ 0x8F ∷ 0xDB ∷ 0xF1 ∷ 0xE4 ∷ 0x72 ∷ 0x39 ∷ []

-- the codeword of eight bits of information: these, and their check bits
abbrev pub lsd16_word : List Bool → List Bool
lsd16_word = systematic check_rows 8
