use Rattle.p25_trellis.specs.TableLaws.{symbol_digit}
use Rattle.p25_trellis.proofs.rate.AnyRate.symbol_sending.Goals as goal

pub returns-clause-sends : goal.returns-clause-sends
unfolding symbol_digit
returns-clause-sends g c = rw c.from.ensures (c.tables.ensures.sends c.args.state c.args.nibble c.requires.row c.requires.nibble)

pub returns-clause-none : goal.returns-clause-none
unfolding symbol_digit
returns-clause-none g c = rw c.from.ensures (c.tables.ensures.none c.args.state c.args.nibble c.requires.row c.requires.nibble)
