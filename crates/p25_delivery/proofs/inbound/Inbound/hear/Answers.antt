use Rattle.p25_delivery.proofs.ReceivingLaws.{receiver-soundly}
use Rattle.p25_delivery.proofs.inbound.Inbound.hear.Goals as goal

pub invariant_of-self : goal.invariant_of-self
invariant_of-self c = (rw (← c.hear-heard.ensures) at (receiver-soundly c.self.inside.receiver c.args.packet.now c.self.invariant)).0

pub invariant_of-self-in_default : goal.invariant_of-self-in_default
invariant_of-self-in_default c = (rw (← c.hear-heard.ensures) at (receiver-soundly c.self.inside.receiver c.args.packet.now c.self.invariant)).0

pub returns-clause-sendable : goal.returns-clause-sendable
returns-clause-sendable c = rw c.into.ensures (rw (← c.hear-heard.ensures) at (receiver-soundly c.self.inside.receiver c.args.packet.now c.self.invariant)).1
