use Rattle.std.proofs.Common.{sym, arith, ◌∙◌}
use Rattle.p25_line.proofs.LineReadLaws.{line_read-found, line_read-refused}
use Rattle.p25_line.proofs.line_reader.read_whole.Goals as goal

pub returns-clause-read : goal.returns-clause-read
returns-clause-read g c = c.read_words.ensures ∙ sym (line_read-found g.R.LineReader.words_read c.args.line.now c.in_ok-read.field-0 (sym c.read.ensures.words ∙ c.in_ok-read.was))

pub returns-in_err-read-clause-read : goal.returns-in_err-read-clause-read
returns-in_err-read-clause-read g c = grind (arith, line_read-refused g.R.LineReader.words_read c.args.line.now c.in_err-read.field-0.0 (sym c.read.ensures.words ∙ c.in_err-read.was))
