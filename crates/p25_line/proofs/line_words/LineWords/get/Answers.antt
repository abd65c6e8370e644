use Rattle.std.proofs.Common.{◌<◌, List, ℕ, length, slice_get, subst, sym, ap, ◌∙◌}
use Rattle.p25_line.proofs.LineWordsLaws.{spans_kept, word_kept, word_short}
use Rattle.p25_line.proofs.line_words.LineWords.get.Goals as goal

pub word-requires-clause-held : goal.word-requires-clause-held
word-requires-clause-held c =
    let held = subst (λ (l : List (List ℕ)). c.args.i < length l) (sym c.self.view_is) c.requires.held in
    spans_kept c.self.inside.line.now c.self.inside.words c.args.i c.self.invariant held c.requires.kept

pub returns-clause-word : goal.returns-clause-word
returns-clause-word c = ap (λ l. slice_get l c.args.i) (sym c.self.view_is)
    ∙ word_kept c.self.inside.line.now c.self.inside.words c.args.i c.word.result.now c.self.invariant c.requires.kept c.word.ensures

pub returns-clause-short : goal.returns-clause-short
returns-clause-short c = word_short c.self.inside.line.now c.self.inside.words c.args.i c.word.result.now c.self.invariant c.word.ensures
