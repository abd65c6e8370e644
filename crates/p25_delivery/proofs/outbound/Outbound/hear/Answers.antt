use Rattle.std.proofs.Common.{◌≡◌, ℕ, refl, arith}
use Rattle.p25_delivery.specs.{Halves.{Outgoing}, HalfRules.{acknowledged_after, after_answer}}
use Rattle.p25_messages.specs.declared.answers.SenderHeard.{SenderHeard, TheVariants.{Acknowledged}}
use Rattle.p25_delivery.proofs.HalfLaws.{outgoing-counts, answer-keeps}
use Rattle.p25_delivery.proofs.outbound.Outbound.hear.Goals as goal

pub overflow_add-self : goal.overflow_add-self
unfolding after_answer
overflow_add-self c =
    let keeps = rw (← c.hear-heard.ensures, c.in-Acknowledged.is) at (answer-keeps _ c.args.packet.now c.self.invariant) in
    omega (arith, outgoing-counts _ keeps.0, c.len.ensures, c.len.type_inv)

pub invariant_of-self : goal.invariant_of-self
unfolding after_answer
invariant_of-self c = (rw (← c.hear-heard.ensures, c.in-Acknowledged.is) at (answer-keeps _ c.args.packet.now c.self.invariant)).0

-- if no more is acknowledged
other : (o : Outgoing) (answer : SenderHeard) → ((number : ℕ) → answer ≡ Acknowledged number → ⊥) → acknowledged_after o answer ≡ o.acknowledged
other o (Acknowledged number) none = absurd (none number refl)
other o answer none = refl

pub invariant_of-self-in_default : goal.invariant_of-self-in_default
unfolding after_answer
invariant_of-self-in_default c = (rw (← c.hear-heard.ensures, other _ _ c.in_default.not-Acknowledged) at (answer-keeps _ c.args.packet.now c.self.invariant)).0

pub returns-clause-sendable : goal.returns-clause-sendable
unfolding after_answer
returns-clause-sendable c = rw c.into.ensures (rw (← c.hear-heard.ensures) at (answer-keeps _ c.args.packet.now c.self.invariant)).1
