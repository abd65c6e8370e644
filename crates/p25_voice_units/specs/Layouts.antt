-- The positions of the parts of voice data units after sync and NID, without status symbols, as in the standard. A row is a position, counted from
-- the first sync bit, and the part at it.
use Rattle.std.specs.Prelude.{ℕ, List, [], ◌∷◌}
use Rattle.p25_voice_units.specs.{declared.layout.Piece.{Piece}, declared.layout.Piece.TheVariants.{Words, Frame, LowSpeed, Nulls}}

-- an HDU, a header: 36 inner words of its coded field, and nulls
abbrev pub hdu_rows : List (ℕ × Piece)
hdu_rows = (112, Words 0 36) ∷ (760, Nulls 10) ∷ []

-- an LDU1 or an LDU2, voice with link control or encryption sync: nine frames, 24 inner words of the coded field, and two low speed data words
abbrev pub ldu_rows : List (ℕ × Piece)
ldu_rows =
    (112, Frame 0)
    ∷ (256, Frame 1)
    ∷ (400, Words 0 4)
    ∷ (440, Frame 2)
    ∷ (584, Words 4 4)
    ∷ (624, Frame 3)
    ∷ (768, Words 8 4)
    ∷ (808, Frame 4)
    ∷ (952, Words 12 4)
    ∷ (992, Frame 5)
    ∷ (1136, Words 16 4)
    ∷ (1176, Frame 6)
    ∷ (1320, Words 20 4)
    ∷ (1360, Frame 7)
    ∷ (1504, LowSpeed 0)
    ∷ (1520, LowSpeed 1)
    ∷ (1536, Frame 8)
    ∷ []

-- a TDU, a terminator: nulls alone
abbrev pub tdu_rows : List (ℕ × Piece)
tdu_rows = (112, Nulls 28) ∷ []

-- a TDULC, a terminator with link control: 12 inner words of its coded field, and nulls
abbrev pub tdulc_rows : List (ℕ × Piece)
tdulc_rows = (112, Words 0 12) ∷ (400, Nulls 20) ∷ []
