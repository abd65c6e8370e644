use Rattle.std.proofs.Common.{refl, arith}
use Rattle.p25_line.proofs.CommaPartLaws.{part-comma, part-last}
use Rattle.p25_line.proofs.comma_lists.comma_part.Goals as goal

pub returns-then-word-i-eq44-clause-parts : goal.returns-then-word-i-eq44-clause-parts
returns-then-word-i-eq44-clause-parts c =
    part-comma c.args.word.now _ c.args.start c.loop-i.i (omega arith) (omega arith) c.if-word-i-eq44.true c.loop-i.invariant refl

pub returns-clause-parts : goal.returns-clause-parts
returns-clause-parts c =
    part-last c.args.word.now _ c.args.start c.requires (λ k from below. c.loop-i.invariant k from (omega arith)) refl
