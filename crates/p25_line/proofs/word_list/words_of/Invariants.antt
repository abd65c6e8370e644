use Rattle.p25_line.proofs.WordsSteps.{Cut}
use Rattle.p25_line.proofs.word_list.words_of.Given as goal

abbrev pub invariant-loop-i : goal.invariant-loop-i
invariant-loop-i l = Cut l.line l.out l.start l.i
