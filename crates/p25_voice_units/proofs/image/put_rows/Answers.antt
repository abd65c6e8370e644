use Rattle.std.proofs.{Common.{ℕ, ◌/◌, arith}, lemmas.List.Sums.{sum_by_more, sum_by_more_le}}
use Rattle.p25_voice_units.specs.{declared.layout.Piece.{Piece}, declared.layout.Piece.TheVariants.{Words}, Images.{contents}, Pieces.{piece_length}}
use Rattle.p25_voice_units.proofs.ImageSteps.{rows_none, rows_more}
use Rattle.p25_voice_units.proofs.image.put_rows.Goals as goal

pub loop-row-init : goal.loop-row-init
loop-row-init g c = (
  rows_none (contents g.I.BlockCode.encoding_is (g.I.BlockCode.K / 6) c.args.symbols.now c.args.low.now c.args.frames.now) c.args.out.now,
  omega arith,
)

pub put_piece-requires-clause-room : goal.put_piece-requires-clause-room
put_piece-requires-clause-room g c =
    let size : ℕ × Piece → ℕ = λ row. piece_length g.I.BlockCode.N row.1 in
    let within = sum_by_more_le size c.args.rows.now c.loop-row.row-index (0, Words 0 0) c.loop-row-test.true in
    omega (arith, within, c.loop-row.invariant.1, c.requires.room)

pub loop-row-preserved : goal.loop-row-preserved
loop-row-preserved g c =
    let rows = c.args.rows.now in
    let i = c.loop-row.row-index in
    let size : ℕ × Piece → ℕ = λ row. piece_length g.I.BlockCode.N row.1 in (
      rows_more (contents g.I.BlockCode.encoding_is (g.I.BlockCode.K / 6) c.args.symbols.now c.args.low.now c.args.frames.now) rows i
          (0, Words 0 0) c.args.out.now c.loop-row.out c.put_piece.new.out c.loop-row-test.true
          c.loop-row.invariant.0 c.put_piece.ensures.list,
      omega (arith, c.put_piece.ensures.len, c.loop-row.invariant.1, sum_by_more size rows i (0, Words 0 0) c.loop-row-test.true),
    )
