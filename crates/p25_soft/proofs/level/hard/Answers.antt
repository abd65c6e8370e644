use Rattle.p25_soft.proofs.LevelSteps.{hard-01, hard-00, hard-10, hard-11}
use Rattle.p25_soft.proofs.level.hard.Goals as goal

pub returns-then-level-ge64-clause-dibit : goal.returns-then-level-ge64-clause-dibit
returns-then-level-ge64-clause-dibit c = hard-01 c.args.level c.ranges.level c.if-level-ge64.true

pub returns-then-level-ge0-clause-dibit : goal.returns-then-level-ge0-clause-dibit
returns-then-level-ge0-clause-dibit c = hard-00 c.args.level c.ranges.level c.if-level-ge64.false c.if-level-ge0.true

pub returns-then-level-geminus64-clause-dibit : goal.returns-then-level-geminus64-clause-dibit
returns-then-level-geminus64-clause-dibit c = hard-10 c.args.level c.ranges.level c.if-level-ge64.false c.if-level-ge0.false c.if-level-geminus64.true

pub returns-else-level-geminus64-clause-dibit : goal.returns-else-level-geminus64-clause-dibit
returns-else-level-geminus64-clause-dibit c = hard-11 c.args.level c.ranges.level c.if-level-ge64.false c.if-level-ge0.false c.if-level-geminus64.false
