-- The shortened Golay code (18,6) of TIA-102.BAAA.
use Rattle.std.specs.Prelude.{ℕ, Bool, false, List, [], ◌∷◌}
use Rattle.p25_code.specs.Binary.{systematic}
use Rattle.p25_golay.specs.Golay24.{IsGolay24}

-- 18 bits which, after six zeros, are a codeword of the Golay code (24,12)
pub record IsGolay18 (word : List Bool) : Type 0 where
  pub in_golay24 : IsGolay24 (false ∷ false ∷ false ∷ false ∷ false ∷ false ∷ word)

-- the check bits of the last six messages with a single 1 of the Golay code (24,12)
abbrev pub short_rows : List ℕ
short_rows = 0x6CD ∷ 0x367 ∷ 0xDC6 ∷ 0xA97 ∷ 0x93E ∷ 0x8EB ∷ []

-- the codeword of six bits of information: these, and their check bits
abbrev pub golay18_word : List Bool → List Bool
golay18_word = systematic short_rows 12
