-- The coded fields of voice data units: the positions of their inner words, by the layouts of the data units, and their decoding.
use Rattle.std.specs.{Prelude.{ℕ, List, []}, List.{flat_map}}
use Rattle.p25_golay.specs.{Golay18Laws.{golay18_reading_of}, Golay24Laws.{golay24_reading_of}}
use Rattle.p25_hamming.specs.Hamming10Laws.{hamming10_reading_of}
use Rattle.p25_reed_solomon.specs.RsReadings.{rs_erased_reading_of}
use Rattle.p25_coded_fields.specs.Layouts.{Layout, field_layout, places_from}
use Rattle.p25_voice_units.specs.{declared.layout.Piece.{Piece}, declared.layout.Piece.TheVariants.{Words, Frame, LowSpeed, Nulls}}
use Rattle.p25_voice_units.specs.Layouts.{hdu_rows, ldu_rows, tdulc_rows}

-- the positions of the inner words of a part at a position, by the number of bits of each
abbrev pub words_at : ℕ → ℕ → Piece → List ℕ
words_at size at (Words first count) = places_from at size count
words_at size at (Frame i) = []
words_at size at (LowSpeed i) = []
words_at size at (Nulls count) = []

-- the positions of all inner words of a layout
unfoldable pub word_places : ℕ → List (ℕ × Piece) → List ℕ
word_places size rows = flat_map (λ row. words_at size row.0 row.1) rows

-- the header word of an HDU: 20 of 36 symbols, each the information of a Golay (18,6) codeword
abbrev pub header_layout : Layout
header_layout = field_layout (word_places 18 hdu_rows) 18 1 golay18_reading_of (rs_erased_reading_of 36 20) 20

-- link control (LC) in an LDU1: 12 of 24 symbols, each the information of a Hamming codeword
abbrev pub link_layout : Layout
link_layout = field_layout (word_places 10 ldu_rows) 10 1 hamming10_reading_of (rs_erased_reading_of 24 12) 12

-- encryption sync (ES) in an LDU2: 16 of 24 symbols, each the information of a Hamming codeword
abbrev pub sync_layout : Layout
sync_layout = field_layout (word_places 10 ldu_rows) 10 1 hamming10_reading_of (rs_erased_reading_of 24 16) 16

-- link control (LC) in a TDULC: 12 of 24 symbols, two of them the information of a Golay (24,12) codeword
abbrev pub tdulc_layout : Layout
tdulc_layout = field_layout (word_places 24 tdulc_rows) 24 2 golay24_reading_of (rs_erased_reading_of 24 12) 12
