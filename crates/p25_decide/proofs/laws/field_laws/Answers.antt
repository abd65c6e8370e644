use Rattle.p25_decide.proofs.OuterLaws.{outer-first, outer-near, outer-none}
use Rattle.p25_decide.proofs.laws.field_laws.Goals as goal

pub returns-clause-near : goal.returns-clause-near
returns-clause-near c = outer-near

pub returns-clause-first : goal.returns-clause-first
returns-clause-first c = outer-first

pub returns-clause-none : goal.returns-clause-none
returns-clause-none c = outer-none
