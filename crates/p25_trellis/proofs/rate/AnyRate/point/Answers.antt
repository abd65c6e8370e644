use Rattle.p25_trellis.proofs.rate.AnyRate.point.Goals as goal

pub returns-clause-value : goal.returns-clause-value
returns-clause-value g c =
    rw (c.from-3.ensures, c.from.ensures, c.from-2.ensures, c.STATES.ensures)
    (c.tables.ensures.nibble_at c.args.state c.args.symbol c.requires.row c.requires.column)
