-- A step of the world is no event of its delivery, or one. By the reception.
use Rattle.std.proofs.Common.{◌≡◌, ℕ, Bool, false, List, Option, Some, None, refl}
use Rattle.p25_status.specs.declared.fields.Field.{Field}
use Rattle.p25_packet_blocks.specs.declared.packet.Packet.{Packet}
use Rattle.p25_messages.specs.{declared.step_kind.Way.{Way}, declared.step_kind.Way.TheVariants.{Packets, Answers}, declared.step_kind.StepKind.{StepKind}}
use Rattle.p25_messages.specs.declared.step_kind.StepKind.TheVariants.{Nothing, Lost, Ignored}
use Rattle.p25_delivery.specs.Delivery.{Delivery, Happening, Offering, Time_up, Opening_again, Data_heard, Answer_heard, happens}
use Rattle.p25_stations.specs.{declared.air.Carried.{Carried}, declared.air.Carried.TheVariants.{Lost as CarriedLost, Foreign, Heard}, declared.step.Event.{Event}}
use Rattle.p25_stations.specs.{declared.step.Event.TheVariants.{Send, Timeout, Reopen, ToReceiver, ToSender}, declared.step.Step.{Step}, Air.{carried_of}, WorldState.{WorldState}}
use Rattle.p25_stations.specs.Steps.{heard_of, delivery_of, counted_when, quiet_step, heard_step, heard_by, newest_by, delivered, world_step}

-- the effect of an event on a delivery, and whether it is a false pass
pub data HasHappen (delivery : Delivery) : Event → Bool → Happening → Type 0 where
  offers : (message : List ℕ) → HasHappen delivery (Send message) false (Offering message)
  is_late : HasHappen delivery Timeout false Time_up
  opens : HasHappen delivery Reopen false Opening_again
  brings_data : (flips : List ℕ) (sent packet : Packet) (false_pass : Bool) → delivery.packet_sent ≡ Some sent
      → carried_of sent flips ≡ Heard packet false_pass → HasHappen delivery (ToReceiver flips) false_pass (Data_heard packet)
  brings_answer : (flips : List ℕ) (sent packet : Packet) (false_pass : Bool)
      → delivery.answer ≡ Some sent → carried_of sent flips ≡ Heard packet false_pass → HasHappen delivery (ToSender flips) false_pass (Answer_heard packet)

-- a type of step in which nothing happens
pub data IsQuiet : StepKind → Type 0 where
  nothing : (way : Way) → IsQuiet (Nothing way)
  lost : (way : Way) (field : Field) → IsQuiet (Lost way field)
  ignored : (way : Way) → IsQuiet (Ignored way)

-- the effect of a step on the delivery
pub data Does (w : WorldState) (event : Event) : WorldState × Step → Type 0 where
  rests : (kind : StepKind) → IsQuiet kind → Does w event (quiet_step w (w.delivery, kind))
  does : (happening : Happening) (false_pass : Bool) → HasHappen w.delivery event false_pass happening → Does w event (heard_step w false_pass (happens w.delivery happening))

-- a delivery that way
abbrev pub carrying_event : Way → List ℕ → Event
carrying_event Packets flips = ToReceiver flips
carrying_event Answers flips = ToSender flips

brings : (delivery : Delivery) (way : Way) (flips : List ℕ) (sent packet : Packet) (false_pass : Bool) → newest_by way delivery ≡ Some sent → carried_of sent flips ≡ Heard packet false_pass →
    HasHappen delivery (carrying_event way flips) false_pass (heard_by way packet)
unfolding newest_by heard_by
brings delivery Packets flips sent packet false_pass n e = brings_data flips sent packet false_pass n e
brings delivery Answers flips sent packet false_pass n e = brings_answer flips sent packet false_pass n e

carried-does : (w : WorldState) (way : Way) (flips : List ℕ) (sent : Packet) (c : Carried)
    → newest_by way w.delivery ≡ Some sent → carried_of sent flips ≡ c → Does w (carrying_event way flips) (delivered w way (heard_of way c))
unfolding delivered heard_of
carried-does w way flips sent (CarriedLost field) n e = rests (Lost way field) (lost way field)
carried-does w way flips sent Foreign n e = rests (Ignored way) (ignored way)
carried-does w way flips sent (Heard packet false_pass) n e = does (heard_by way packet) false_pass (brings w.delivery way flips sent packet false_pass n e)

delivered-does : (w : WorldState) (way : Way) (flips : List ℕ) (newest : Option Packet)
    → newest_by way w.delivery ≡ newest → Does w (carrying_event way flips) (delivered w way (delivery_of way newest flips))
unfolding delivered delivery_of
delivered-does w way flips None n = rests (Nothing way) (nothing way)
delivered-does w way flips (Some sent) n = carried-does w way flips sent (carried_of sent flips) n refl

pub step-does : (w : WorldState) (event : Event) → Does w event (world_step w event)
unfolding world_step counted_when
step-does w (Send message) = does (Offering message) false (offers message)
step-does w Timeout = does Time_up false is_late
step-does w Reopen = does Opening_again false opens
step-does w (ToReceiver flips) = delivered-does w Packets flips (newest_by Packets w.delivery) refl
step-does w (ToSender flips) = delivered-does w Answers flips (newest_by Answers w.delivery) refl
