-- Every step keeps the invariants of the halves of a world, and its newest transmissions are sendable. By the events of the delivery.
use Rattle.std.proofs.Common.{Bool, List, length, Option}
use Rattle.std.specs.Prelude.{IfSome}
use Rattle.p25_packet_blocks.specs.{declared.packet.Packet.{Packet}, Sendable.{IsSendable}}
use Rattle.p25_messages.specs.declared.step_kind.StepKind.{StepKind}
use Rattle.p25_delivery.specs.{Halves.{Outgoing, Incoming}, SoundHalves.{IsOutgoing, IsIncoming}, Delivery.{Delivery, Happening, with_outbound, with_inbound, happens}}
use Rattle.p25_delivery.proofs.{HalfLaws.{KeepsOutgoing, KeepsIncoming, offer-keeps, timeout-keeps, reopen-keeps, data-keeps, answer-keeps, first-outgoing, first-incoming}, RunLaws.{run-keeps_each}}
use Rattle.p25_stations.specs.{declared.step.Event.{Event}, declared.step.Step.{Step}, WorldState.{WorldState, first_world}, Steps.{world_step}, Runs.{IsEvent, AreEvents, world_run}}
use Rattle.p25_stations.proofs.{NewestLaws.{newest-sendable}, StepLaws.{HasHappen, offers, is_late, opens, brings_data, brings_answer, Does, rests, does, step-does}}

-- a delivery with sound halves, whose newest transmissions are sendable
pub record IsSoundDelivery (w : Delivery) : Type 0 where
  pub outbound : IsOutgoing w.outbound
  pub inbound : IsIncoming w.inbound
  pub packet_sent : IfSome w.packet_sent IsSendable
  pub answer : IfSome w.answer IsSendable

outbound-sound : (w : Delivery) (x : Outgoing × (StepKind × Option Packet)) → KeepsOutgoing x → IsSoundDelivery w → IsSoundDelivery (with_outbound w x).0
unfolding with_outbound
outbound-sound w x keeps sound = record { outbound = keeps.0; inbound = sound.inbound; packet_sent = newest-sendable x.1.1 w.packet_sent keeps.1 sound.packet_sent; answer = sound.answer }

inbound-sound : (w : Delivery) (x : Incoming × (StepKind × Option Packet)) → KeepsIncoming x → IsSoundDelivery w → IsSoundDelivery (with_inbound w x).0
unfolding with_inbound
inbound-sound w x keeps sound = record { outbound = sound.outbound; inbound = keeps.0; packet_sent = sound.packet_sent; answer = newest-sendable x.1.1 w.answer keeps.1 sound.answer }

happening-sound : (w : Delivery) (event : Event) (false_pass : Bool) (happening : Happening)
    → HasHappen w event false_pass happening → IsEvent event → IsSoundDelivery w → IsSoundDelivery (happens w happening).0
unfolding happens IsEvent
happening-sound w event false_pass happening (offers message) is sound = outbound-sound w _ (offer-keeps w.outbound message is sound.outbound) sound
happening-sound w event false_pass happening is_late is sound = outbound-sound w _ (timeout-keeps w.outbound sound.outbound) sound
happening-sound w event false_pass happening opens is sound = outbound-sound w _ (reopen-keeps w.outbound (length w.inbound.received) sound.outbound) sound
happening-sound w event false_pass happening (brings_data flips sent packet b n e) is sound = inbound-sound w _ (data-keeps w.inbound packet sound.inbound) sound
happening-sound w event false_pass happening (brings_answer flips sent packet b n e) is sound = outbound-sound w _ (answer-keeps w.outbound packet sound.outbound) sound

sound-after : (w : WorldState) (event : Event) (x : WorldState × Step) → Does w event x → IsEvent event → IsSoundDelivery w.delivery → IsSoundDelivery x.0.delivery
sound-after w event x (rests kind quiet) is sound = sound
sound-after w event x (does happening false_pass has) is sound = happening-sound w.delivery event false_pass happening has is sound

pub step-sound : (w : WorldState) (event : Event) → IsEvent event → IsSoundDelivery w.delivery → IsSoundDelivery (world_step w event).0.delivery
step-sound w event is sound = sound-after w event (world_step w event) (step-does w event) is sound

pub first-sound : IsSoundDelivery first_world.delivery
first-sound = record { outbound = first-outgoing; inbound = first-incoming; packet_sent = tt; answer = tt }

pub run-sound : (events : List Event) (w : WorldState) → AreEvents events → IsSoundDelivery w.delivery → IsSoundDelivery (world_run w events).delivery
run-sound events w are sound =
    run-keeps_each world_step IsEvent (λ (v : WorldState). IsSoundDelivery v.delivery)
    (λ (v : WorldState) (event : Event) (s : IsSoundDelivery v.delivery) (is : IsEvent event). step-sound v event is s) events w sound are
