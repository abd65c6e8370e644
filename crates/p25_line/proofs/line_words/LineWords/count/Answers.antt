use Rattle.std.proofs.Common.{arith}
use Rattle.p25_line.proofs.LineWordsLaws.{some_words}
use Rattle.p25_line.proofs.line_words.LineWords.count.Goals as goal

pub returns-clause-some : goal.returns-clause-some
returns-clause-some c = omega (arith, some_words c.self.inside.line.now c.self.inside.words c.self.invariant, c.self.invariant.count, c.count.ensures)
