use Rattle.std.proofs.Common.{◌≡◌, ◌+◌, ◌/◌, ◌++◌, length, take, sum_by}
use Rattle.p25_voice_units.specs.{Images.{contents, rows_bits}, Pieces.{piece_length}}
use Rattle.p25_voice_units.proofs.image.put_rows.Given as goal

abbrev pub invariant-loop-row : goal.invariant-loop-row
invariant-loop-row g l =
    (l.out ≡ l.initial.out ++ rows_bits (contents g.I.BlockCode.encoding_is (g.I.BlockCode.K / 6) l.symbols l.low l.frames) (take l.row-index l.rows))
    × (length l.out ≡ length l.initial.out + sum_by (λ row. piece_length g.I.BlockCode.N row.1) (take l.row-index l.rows))
