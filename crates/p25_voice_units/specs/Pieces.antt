-- The number of bits of the parts of a layout, the condition that their contents exist, and the codes of inner words.
use Rattle.std.specs.Prelude.{◌≡◌, ℕ, ◌+◌, ◌*◌, ◌/◌, ◌≤◌, Bool, nat_le, nat_lt}
use Rattle.p25_voice_units.specs.{declared.layout.Piece.{Piece}, declared.layout.Piece.TheVariants.{Words, Frame, LowSpeed, Nulls}}

-- the number of bits of a part, if an inner word has `size` bits
abbrev pub piece_length : ℕ → Piece → ℕ
piece_length size (Words first count) = size * count
piece_length size (Frame i) = 144
piece_length size (LowSpeed i) = 16
piece_length size (Nulls count) = count

-- there are enough symbols, `each` for an inner word, enough octets of low speed data (LSD) and enough voice frames
abbrev pub piece_fits : ℕ → ℕ → ℕ → ℕ → Piece → Bool
piece_fits each symbols low frames (Words first count) = nat_le (each * first + each * count) symbols
piece_fits each symbols low frames (Frame i) = nat_lt i frames
piece_fits each symbols low frames (LowSpeed i) = nat_lt i low
piece_fits each symbols low frames (Nulls count) = nat_le count 64

-- a code of inner words: a codeword has at most 24 bits, and its information is whole symbols, of six bits each
pub record IsInnerCode (HasCode : Type 0) (n k : ℕ) : Type 0 where
  pub code : HasCode
  pub small : n ≤ 24
  pub sixes : 6 * (k / 6) ≡ k
