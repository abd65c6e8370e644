-- Polynomials with bits as coefficients, and their values in a field of characteristic 2.
use Rattle.std.specs.Prelude.{ℕ, Bool, true, false, List, [], ◌∷◌, length}
use Rattle.p25_bits.specs.Bits.{bits_of}
use Rattle.p25_gf64.specs.Field.{Field, power}

-- a bit as a coefficient
abbrev pub bit_coefficient : {F : Type 0} → Field F → Bool → F
bit_coefficient K true = K.one
bit_coefficient K false = K.zero

-- the value at x of the polynomial whose coefficients are the bits, the first the highest
unfoldable pub bit_value : {F : Type 0} → Field F → F → List Bool → F
bit_value K x [] = K.zero
bit_value K x (bit ∷ bits) = K.add (K.mul (bit_coefficient K bit) (power K x (length bits))) (bit_value K x bits)

-- the value of the polynomial of a number, by a given number of its coefficients
abbrev pub number_value : {F : Type 0} → Field F → F → ℕ → ℕ → F
number_value K x width number = bit_value K x (bits_of width number)
