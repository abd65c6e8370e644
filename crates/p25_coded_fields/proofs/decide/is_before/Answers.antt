use Rattle.p25_coded_fields.proofs.DecidedLaws.{before_less, before_equal, before_more}
use Rattle.p25_coded_fields.proofs.decide.is_before.Goals as goal

pub returns-then-first-second : goal.returns-then-first-second
returns-then-first-second c = before_less _ _ c.args.i c.args.j c.if-first-second.true

pub returns-then-first-second-2 : goal.returns-then-first-second-2
returns-then-first-second-2 c = before_equal _ _ c.args.i c.args.j c.if-first-second-2.true

pub returns-else-first-second-2 : goal.returns-else-first-second-2
returns-else-first-second-2 c = before_more _ _ c.args.i c.args.j c.if-first-second.false c.if-first-second-2.false
