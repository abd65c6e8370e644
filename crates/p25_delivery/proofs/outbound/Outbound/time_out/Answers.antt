use Rattle.p25_delivery.specs.HalfRules.{after_timeout}
use Rattle.p25_delivery.proofs.HalfLaws.{timeout-keeps}
use Rattle.p25_delivery.proofs.outbound.Outbound.time_out.Goals as goal

pub invariant_of-self : goal.invariant_of-self
unfolding after_timeout
invariant_of-self c = (rw (← c.timeout.ensures) at (timeout-keeps _ c.self.invariant)).0

pub returns-clause-sendable : goal.returns-clause-sendable
unfolding after_timeout
returns-clause-sendable c = rw c.into.ensures (rw (← c.timeout.ensures) at (timeout-keeps _ c.self.invariant)).1
