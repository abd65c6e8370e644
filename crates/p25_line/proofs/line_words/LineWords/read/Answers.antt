use Rattle.std.proofs.Common.{◌≡◌, rules, sym, ◌∙◌}
use Rattle.p25_line.specs.Words.{words_or_fault}
use Rattle.p25_line.proofs.LineWordsLaws.{AreWordsOf-answer, words_or_fault-Long}
use Rattle.p25_line.proofs.line_words.LineWords.read.Goals as goal

pub invariant_of-result : goal.invariant_of-result
invariant_of-result c = AreWordsOf-answer c.args.line.now c.words_of.new.out c.in_ok-words_of.ensures

pub returns-clause-words : goal.returns-clause-words
returns-clause-words c = sym (AreWordsOf-answer c.args.line.now c.words_of.new.out c.in_ok-words_of.ensures).found

pub returns-clause-long : goal.returns-clause-long
returns-clause-long c =
    let found = (AreWordsOf-answer c.args.line.now c.words_of.new.out c.in_ok-words_of.ensures).found in
    let long = words_or_fault-Long c.args.line.now in
    (λ same. long.0 (found ∙ same), λ more. sym found ∙ long.1 more)

refused : (c : goal.After-from_residual) → c.from_residual.result ≡ words_or_fault c.args.line.now
refused c = search rules

pub returns-in_err-words_of-clause-long : goal.returns-in_err-words_of-clause-long
returns-in_err-words_of-clause-long c =
    let long = words_or_fault-Long c.args.line.now in
    (λ same. long.0 (sym (refused c) ∙ same), λ more. refused c ∙ long.1 more)
