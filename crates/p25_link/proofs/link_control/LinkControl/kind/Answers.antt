use Rattle.std.proofs.Common.{rules, sym, arith}
use Rattle.p25_link.specs.Kinds.{group_call, individual_call}
use Rattle.p25_link.proofs.KindsLaws.{link_kind_of-group, link_kind_of-individual, link_kind_of-other, kind_other}
use Rattle.p25_link.proofs.link_control.LinkControl.kind.Goals as goal

pub returns-in-0-clause-value : goal.returns-in-0-clause-value
unfolding group_call
returns-in-0-clause-value c = rw (link_kind_of-group c.args.self.now c.in-0.is) (search rules)

pub returns-in-0-clause-other : goal.returns-in-0-clause-other
returns-in-0-clause-other c = kind_other c.args.self.now _ (returns-in-0-clause-value c)

pub returns-in-3-clause-value : goal.returns-in-3-clause-value
unfolding individual_call
returns-in-3-clause-value c = rw (link_kind_of-individual c.args.self.now c.in-3.is) (search rules)

pub returns-in-3-clause-other : goal.returns-in-3-clause-other
returns-in-3-clause-other c = kind_other c.args.self.now _ (returns-in-3-clause-value c)

pub returns-in_default-clause-value : goal.returns-in_default-clause-value
returns-in_default-clause-value c = sym (link_kind_of-other c.args.self.now (λ is. omega arith) (λ is. omega arith))
