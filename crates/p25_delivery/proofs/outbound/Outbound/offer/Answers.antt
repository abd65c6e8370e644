use Rattle.std.proofs.Common.{◌≡◌, ℕ, ◌≤◌, List, length, refl, subst}
use Rattle.p25_packet_blocks.specs.{declared.packet.Packet.{Packet}, Sendable.{AreOctets}}
use Rattle.p25_delivery.specs.{Halves.{Sending, Outgoing}, SenderRules.{offered}, SoundHalves.{IsOutgoing}, HalfRules.{sent_after, after_offer}}
use Rattle.p25_messages.specs.declared.answers.Offer.{Offer, TheVariants.{Taken}}
use Rattle.p25_delivery.proofs.HalfLaws.{KeepsOutgoing, offer-keeps}
use Rattle.p25_delivery.proofs.outbound.Outbound.offer.Goals as goal

-- the half after an offer of octets, and its transmission
kept : (o : Outgoing) (message octets : List ℕ) (x : Sending × Offer) → x ≡ offered o.sender message → octets ≡ message → length octets ≤ 2028 → AreOctets octets → IsOutgoing o →
    KeepsOutgoing (after_offer o message x)
kept o message octets x is e short are sound = rw is (offer-keeps o message (record { short = rw (← e) short; octets = subst AreOctets e are }) sound)

-- if it is not taken
untaken : (o : Outgoing) (message : List ℕ) (answer : Offer) → ((number blocks : ℕ) (packet : Packet) → answer ≡ Taken number blocks packet → ⊥) → sent_after o message answer ≡ o.sent
untaken o message (Taken number blocks packet) none = absurd (none number blocks packet refl)
untaken o message answer none = refl

pub invariant_of-self : goal.invariant_of-self
unfolding after_offer
invariant_of-self c =
    let keeps = kept _ _ _ _ c.offer-offer.ensures c.octets.ensures.octets c.octets.ensures.most c.octets_fit.ensures c.self.invariant in
    rw c.push.ensures.list (rw c.in-Taken.is at keeps).0

pub invariant_of-self-in_default : goal.invariant_of-self-in_default
unfolding after_offer
invariant_of-self-in_default c =
    rw (untaken _ _ _ c.in_default.not-Taken) at (kept _ _ _ _ c.offer-offer.ensures c.octets.ensures.octets c.octets.ensures.most c.octets_fit.ensures c.self.invariant).0

pub returns-clause-sendable : goal.returns-clause-sendable
unfolding after_offer
returns-clause-sendable c =
    rw c.into.ensures (kept _ _ _ _ c.offer-offer.ensures c.octets.ensures.octets c.octets.ensures.most c.octets_fit.ensures c.self.invariant).1
