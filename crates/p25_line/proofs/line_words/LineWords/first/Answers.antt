use Rattle.std.proofs.Common.{arith, slice_get, sym, ap, ◌∙◌}
use Rattle.p25_line.proofs.LineWordsLaws.{spans_kept, some_words, word_kept}
use Rattle.p25_line.proofs.line_words.LineWords.first.Goals as goal

pub word-requires-clause-held : goal.word-requires-clause-held
word-requires-clause-held c = spans_kept c.self.inside.line.now c.self.inside.words 0 c.self.invariant (some_words c.self.inside.line.now c.self.inside.words c.self.invariant) (omega arith)

pub returns : goal.returns
returns c = ap (λ l. slice_get l 0) (sym c.self.view_is) ∙ word_kept c.self.inside.line.now c.self.inside.words 0 c.word.result.now c.self.invariant (omega arith) c.word.ensures
