use Rattle.p25_soft.proofs.NamedSteps.{is_block-is, is_block-other}
use Rattle.p25_soft.proofs.softening.is_block.Goals as goal

pub returns-in-Block : goal.returns-in-Block
returns-in-Block c = is_block-is c.args.j c.in-Block.place c.args.field c.in-Block.is

pub returns-in_default : goal.returns-in_default
returns-in_default c = is_block-other c.args.j c.args.field c.in_default.not-Block
