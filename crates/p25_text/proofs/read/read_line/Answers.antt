use Rattle.std.proofs.Common.{◌≡◌, sym, ap, ◌∙◌}
use Rattle.p25_text.specs.Grammar.{read_line_of}
use Rattle.p25_text.proofs.GrammarLaws.{read_line-text_of, read-facts}
use Rattle.p25_text.proofs.read.read_line.Goals as goal

read : (c : goal.After-read_whole) → c.read_whole.result ≡ read_line_of c.args.line.now
unfolding read_line_of
read c = c.read_whole.ensures.read

pub returns-clause-unit : goal.returns-clause-unit
returns-clause-unit c = read c

pub returns-clause-text : goal.returns-clause-text
returns-clause-text c = (read-facts c.args.line.now c.read_whole.result (read c)).0

pub returns-clause-fits : goal.returns-clause-fits
returns-clause-fits c = (read-facts c.args.line.now c.read_whole.result (read c)).1

pub returns-clause-each : goal.returns-clause-each
returns-clause-each c unit fits text = read c ∙ ap read_line_of (sym text) ∙ read_line-text_of unit fits
