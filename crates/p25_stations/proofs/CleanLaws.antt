-- The events of the delivery of a world in a run, which is clean if no step is a false pass. By the law of the channel, one event after the other; so
-- the laws of deliveries are laws of the world.
use Rattle.std.proofs.Common.{◌≡◌, Bool, false, List, [], ◌∷◌, ℕ, Option, Some, refl, ap, sym, subst, ◌∙◌}
use Rattle.p25_packet_blocks.specs.declared.packet.Packet.{Packet}
use Rattle.p25_delivery.specs.{Runs.{run_by, steps_by, MeetAt, EachIs}, Delivery.{Delivery, first_delivery, Happening, delivery_run, sessions_of}}
use Rattle.p25_delivery.specs.{Orderly.{IsHeardOf, IsClean, IsCleanRun as IsCleanDelivery, AreOrderly, AreCounted, AreWhole}, Facts.{DeliveryFacts}}
use Rattle.p25_delivery.proofs.{DeliveryLaws.{sessions-orderly, facts-kept}, CountLaws.{sessions-counted}, WholeLaws.{run-whole as delivery-whole}}
use Rattle.p25_stations.specs.{declared.air.Carried.TheVariants.{Heard}, declared.step.Event.{Event}, declared.step.Step.{Step}, Air.{carried_of}, WorldState.{WorldState, first_world}}
use Rattle.p25_stations.specs.{Steps.{world_step}, Runs.{IsEvent, AreEvents, world_run, steps_of, AreClean, IsCleanRun}}
use Rattle.p25_stations.proofs.{AirLaws.{air-true}, StepLaws.{HasHappen, offers, is_late, opens, brings_data, brings_answer, Does, rests, does, step-does}}

-- a packet that is received without a false pass is true to the transmitted one
heard-of : (sent packet : Packet) (flips : List ℕ) (newest : Option Packet) (false_pass : Bool)
    → newest ≡ Some sent → carried_of sent flips ≡ Heard packet false_pass → false_pass ≡ false → IsHeardOf newest packet
heard-of sent packet flips newest false_pass n e f = record { sent = sent; newest_is = n; true_to = air-true sent flips packet (cc) }

pub happening-clean : (delivery : Delivery) (event : Event) (false_pass : Bool) (happening : Happening)
    → HasHappen delivery event false_pass happening → IsEvent event → false_pass ≡ false → IsClean delivery happening
unfolding IsEvent IsClean
happening-clean delivery event false_pass happening (offers message) is f = is.short
happening-clean delivery event false_pass happening is_late is f = tt
happening-clean delivery event false_pass happening opens is f = tt
happening-clean delivery event false_pass happening (brings_data flips sent packet b n e) is f = heard-of sent packet flips delivery.packet_sent b n e f
happening-clean delivery event false_pass happening (brings_answer flips sent packet b n e) is f = heard-of sent packet flips delivery.answer b n e f

-- the events between a delivery and a later one, which are clean under a condition
pub record Between (before after : Delivery) (If : Type 0) : Type 0 where
  pub happenings : List Happening
  pub becomes : after ≡ delivery_run before happenings
  pub clean : If → IsCleanDelivery before happenings

-- one step more before it
one-more : (w : WorldState) (event : Event) (x : WorldState × Step) (after : Delivery) (If : Type 0)
    → Does w event x → Between x.0.delivery after If → Between w.delivery after (IsEvent event × ((x.1.false_pass ≡ false) × If))
unfolding run_by MeetAt
one-more w event x after If (rests kind quiet) rest =
    record { happenings = rest.happenings; becomes = rest.becomes; clean = λ (c : IsEvent event × ((false ≡ false) × If)). rest.clean c.1.1 }
one-more w event x after If (does happening false_pass has) rest =
    record {
      happenings = happening ∷ rest.happenings;
      becomes = rest.becomes;
      clean = λ (c : IsEvent event × ((false_pass ≡ false) × If)). (happening-clean w.delivery event false_pass happening has c.0 c.1.0, rest.clean c.1.1);
    }

pub run-between : (events : List Event) (w : WorldState) → Between w.delivery (world_run w events).delivery (AreEvents events × AreClean (steps_of w events))
unfolding EachIs run_by steps_by MeetAt
run-between [] w = record { happenings = []; becomes = refl; clean = λ (c : Unit {0} × Unit {0}). tt }
run-between (event ∷ events) w =
    let next = world_step w event in
    let rest = run-between events next.0 in
    let more = one-more w event next (world_run next.0 events).delivery (AreEvents events × AreClean (steps_of next.0 events)) (step-does w event) rest in
    record {
      happenings = more.happenings;
      becomes = more.becomes;
      clean = λ (c : AreEvents (event ∷ events) × AreClean (steps_of w (event ∷ events))). more.clean (c.0.0, (c.1.0, (c.0.1, c.1.1)));
    }

-- a property of every clean delivery is one of a clean run

pub from-deliveries : (P : Delivery → Type 0) → ((happenings : List Happening) → IsCleanDelivery first_delivery happenings → P (delivery_run first_delivery happenings)) →
    (events : List Event) → AreEvents events → IsCleanRun events → P (world_run first_world events).delivery
from-deliveries P law events are clean =
    let b = run-between events first_world in
    rw b.becomes (law b.happenings (b.clean (are, clean)))

pub run-facts : (events : List Event) → AreEvents events → IsCleanRun events → DeliveryFacts (world_run first_world events).delivery
run-facts = from-deliveries DeliveryFacts facts-kept

pub run-orderly : (events : List Event) → AreEvents events → IsCleanRun events → AreOrderly (sessions_of (world_run first_world events).delivery)
run-orderly = from-deliveries (λ (delivery : Delivery). AreOrderly (sessions_of delivery)) sessions-orderly

-- and a property of every delivery is one of every run

pub run-counted : (events : List Event) → AreCounted (sessions_of (world_run first_world events).delivery)
run-counted events =
    let b = run-between events first_world in
    rw b.becomes (sessions-counted b.happenings)

pub run-whole : (events : List Event) → AreWhole (world_run first_world events).delivery
run-whole events = let b = run-between events first_world in rw b.becomes (delivery-whole b.happenings)
