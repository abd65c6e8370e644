use Rattle.std.proofs.Common.{◌∙◌}
use Rattle.p25_tool.proofs.WordsLaws.{status-none, status-read}
use Rattle.p25_tool.proofs.words.status_value.Goals as goal

pub returns : goal.returns
returns c = status-read c.args.word.now c.number_value.result c.in_ok-number.number c.new.result c.number_value.ensures c.in_ok-number.was c.new.ensures.below c.new.ensures.number

pub returns-in_err-number : goal.returns-in_err-number
returns-in_err-number c = c.from_residual.ensures ∙ status-none c.args.word.now c.number_value.result c.number_value.ensures c.in_err-number.was
