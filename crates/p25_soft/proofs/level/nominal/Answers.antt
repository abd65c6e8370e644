use Rattle.std.proofs.Common.{◌≡◌, ap, sym, arith}
use Rattle.p25_soft.specs.Levels.{nominal_level}
use Rattle.p25_soft.proofs.level.nominal.Goals as goal

pub returns-in-0 : goal.returns-in-0
unfolding nominal_level
returns-in-0 c = ap nominal_level (sym c.in-0.is)

pub returns-in-1 : goal.returns-in-1
unfolding nominal_level
returns-in-1 c = ap nominal_level (sym c.in-1.is)

pub returns-in-2 : goal.returns-in-2
unfolding nominal_level
returns-in-2 c = ap nominal_level (sym c.in-2.is)

pub returns-in_default : goal.returns-in_default
unfolding nominal_level
returns-in_default c = let is : 3 ≡ c.args.dibit = omega arith in ap nominal_level is
