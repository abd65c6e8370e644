use Rattle.std.proofs.Common.{◌≡◌, true, map, take}
use Rattle.p25_gf64.specs.Symbol.{number}
use Rattle.p25_c.proofs.SymbolSteps.{symbols_written, writing_refused}
use Rattle.p25_c.proofs.word_calls.symbols.write_symbols.Goals as goal

pub returns-then-not-name_symbols : goal.returns-then-not-name_symbols
returns-then-not-name_symbols g c =
    writing_refused g.row.N g.row.K c.args.octets.now
    (λ all. let named : c.name_symbols.result ≡ true = c.name_symbols.ensures.other all in cc)

pub returns : goal.returns
returns g c =
    let info = c.name_symbols.new.symbols in
    let named : map number info ≡ take g.row.K c.args.octets.now = c.name_symbols.ensures.named c.if-not-name_symbols.false in
    symbols_written g.row.N g.row.K c.args.octets.now c.put_numbers.new.octets info c.encode.new.word named c.encode.ensures.value c.put_numbers.ensures
