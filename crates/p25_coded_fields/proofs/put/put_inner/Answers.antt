use Rattle.p25_coded_fields.proofs.SymbolsLaws.{symbols_info}
use Rattle.p25_coded_fields.proofs.put.put_inner.Goals as goal

pub returns-clause-list : goal.returns-clause-list
returns-clause-list g c =
    rw (← symbols_info g.I.BlockCode.K c.symbols_number.result c.args.symbols.now c.symbols_number.ensures.value c.requires.sixes, ← c.encode_number-word.ensures.encoding)
    (rw (c.N.ensures, c.from.ensures) at c.put_field.ensures.list)
