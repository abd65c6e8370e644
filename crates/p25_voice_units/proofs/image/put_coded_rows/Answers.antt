use Rattle.std.proofs.Common.{◌≡◌, ◌/◌, true, length, sym, subst}
use Rattle.std.specs.List.{list_all}
use Rattle.p25_voice_units.specs.{Pieces.{piece_fits}}
use Rattle.p25_voice_units.proofs.image.put_coded_rows.Goals as goal

pub put_rows-requires-clause-fits : goal.put_rows-requires-clause-fits
put_rows-requires-clause-fits g c =
    subst (λ n. list_all (λ row. piece_fits (g.I.BlockCode.K / 6) n (length c.args.low.now) (length c.args.frames.now) row.1) c.args.rows.now ≡ true)
    (sym c.encode.ensures.encoding.word_of_set.long) c.requires.fits

pub returns-clause-list : goal.returns-clause-list
returns-clause-list g c = rw c.encode.ensures.value at c.put_rows.ensures.list
