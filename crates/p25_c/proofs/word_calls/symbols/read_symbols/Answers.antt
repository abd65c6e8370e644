use Rattle.std.proofs.{Common.{◌≡◌, ◌≤◌, true, length, w32, to_z, of_z, arith}, lemmas.Int.{to_z-of_z}}
use Rattle.p25_reed_solomon.specs.{RsReadings.{rs_reading_of}, Words.{IsWord, radius_of, same_symbols}}
use Rattle.p25_c.specs.Answers.{reading_answer}
use Rattle.p25_c.proofs.{AnswerSteps.{IsChange-reading, change_few}, SymbolSteps.{symbols_read, symbols_refused}}
use Rattle.p25_c.proofs.word_calls.symbols.read_symbols.Goals as goal

pub returns-then-not-name_symbols : goal.returns-then-not-name_symbols
returns-then-not-name_symbols g c =
    symbols_refused (rs_reading_of g.row.N g.row.K) c.args.octets.now
    (λ all. let named : c.name_symbols.result ≡ true = c.name_symbols.ensures.other all in cc)

pub answer_of-requires : goal.answer_of-requires
answer_of-requires g c =
    let received = c.name_symbols.new.symbols in
    let few : length received ≤ 63 = omega arith in
    change_few same_symbols received c.read_received-reading.new.word c.read_received-reading.result 63 few
    (IsChange-reading same_symbols (IsWord g.row.N g.row.K) (radius_of g.row.N g.row.K) received _ _ c.read_received-reading.ensures.reading)

pub returns : goal.returns
returns g c =
    let answer : to_z w32 (of_z w32 c.answer_of.result) ≡ reading_answer c.read_received-reading.result = grind (arith, to_z-of_z) in
    let received = c.name_symbols.new.symbols in
    symbols_read (rs_reading_of g.row.N g.row.K) c.args.octets.now c.put_numbers.new.octets received c.read_received-reading.new.word c.read_received-reading.result _
    (c.name_symbols.ensures.named c.if-not-name_symbols.false)
    (IsChange-reading same_symbols (IsWord g.row.N g.row.K) (radius_of g.row.N g.row.K) received _ _ c.read_received-reading.ensures.reading)
    c.read_received-reading.ensures.value c.put_numbers.ensures
    answer
