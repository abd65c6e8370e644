use Rattle.p25_delivery.specs.HalfRules.{after_reopening}
use Rattle.p25_delivery.proofs.HalfLaws.{reopen-keeps}
use Rattle.p25_delivery.proofs.outbound.Outbound.reopen.Goals as goal

pub invariant_of-self : goal.invariant_of-self
unfolding after_reopening
invariant_of-self c =
    let keeps = rw (← c.if-not-is_opening.ensures, ← c.reopen-reopen.ensures, c.in-Sent.is) at (reopen-keeps _ c.args.delivered c.self.invariant) in
    rw (rw c.unwrap.ensures at c.push.ensures.items, c.len.ensures) keeps.0

pub invariant_of-self-else-not-is_opening : goal.invariant_of-self-else-not-is_opening
unfolding after_reopening
invariant_of-self-else-not-is_opening c =
    (rw (← c.if-not-is_opening.ensures, ← c.reopen-reopen.ensures, c.in-Sent.is) at (reopen-keeps _ c.args.delivered c.self.invariant)).0

pub invariant_of-self-in_default : goal.invariant_of-self-in_default
unfolding after_reopening
invariant_of-self-in_default c = (rw (← c.reopen-reopen.ensures, c.in_default.is) at (reopen-keeps _ c.args.delivered c.self.invariant)).0

pub returns-clause-sendable : goal.returns-clause-sendable
unfolding after_reopening
returns-clause-sendable c = rw c.into.ensures (rw (← c.reopen-reopen.ensures) at (reopen-keeps _ c.args.delivered c.self.invariant)).1
