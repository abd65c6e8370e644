use Rattle.p25_line.proofs.CommaPartLaws.{NoComma}
use Rattle.p25_line.proofs.comma_lists.comma_part.Given as goal

abbrev pub invariant-loop-i : goal.invariant-loop-i
invariant-loop-i l = NoComma l.word l.start l.i
