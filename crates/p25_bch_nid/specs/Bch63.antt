-- The BCH code (63,16) of the network identifier, by the zeros of its codewords.
use Rattle.std.specs.Prelude.{◌≡◌, ℕ, ◌≤◌, Bool, List, length, map}
use Rattle.p25_gf64.specs.{declared.symbol.Sym.{Sym}, Gf64.{gf64}}
use Rattle.p25_reed_solomon.specs.Words.{value_of}
use Rattle.p25_reed_solomon.specs.BitValues.{bit_coefficient}

-- bits as the symbols 0 and 1
abbrev pub symbols_of : List Bool → List Sym
symbols_of bits = map (bit_coefficient gf64) bits

-- 63 bits for which, at each i from 1 to 22, the sum over j of bit j times α^(i · (62 − j)) is 0
pub record IsBch63 (word : List Bool) : Type 0 where
  pub long : length word ≡ 63
  pub vanishes : (i : ℕ) → 1 ≤ i → i ≤ 22 → value_of 63 (symbols_of word) i ≡ gf64.zero
