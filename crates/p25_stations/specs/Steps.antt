-- The reception of a delivery, whatever world the stations are in; the effect of each event on the world, and its step.
use Rattle.std.specs.Prelude.{ℕ, Bool, List, Option, Some, None, Result, Ok, Err, ◌+◌, ◌-◌, ◌^◌, true, false, min}
pub use Rattle.p25_packet_blocks.specs.declared.packet.Packet.{Packet}
pub use Rattle.p25_messages.specs.declared.step_kind.Way.{Way, TheVariants.{Packets, Answers}}
pub use Rattle.p25_messages.specs.declared.step_kind.StepKind.{StepKind, TheVariants.{Nothing, Lost, Ignored}}
use Rattle.p25_stations.specs.{declared.air.Carried.{Carried, TheVariants.{Lost as CarriedLost, Foreign, Heard}}, Air.{carried_of}}
use Rattle.p25_delivery.specs.Delivery.{Delivery, Happening, Offering, Time_up, Opening_again, Data_heard, Answer_heard, happens}
pub use Rattle.p25_stations.specs.declared.step.Event.{Event, TheVariants.{Send, Timeout, Reopen, ToReceiver, ToSender}}
pub use Rattle.p25_stations.specs.declared.step.Step.{Step}
pub use Rattle.p25_stations.specs.WorldState.{WorldState, first_world}

-- a transmission in that direction is received, and is a false pass or not; or this is the step, in which nothing is received
unfoldable pub heard_of : Way → Carried → Result (Packet × Bool) StepKind
heard_of way (CarriedLost field) = Err (Lost way field)
heard_of way Foreign = Err (Ignored way)
heard_of way (Heard packet false_pass) = Ok (packet, false_pass)

-- the newest transmission is delivered in that direction, if there is one
unfoldable pub delivery_of : Way → Option Packet → List ℕ → Result (Packet × Bool) StepKind
delivery_of way None flips = Err (Nothing way)
delivery_of way (Some packet) flips = heard_of way (carried_of packet flips)

-- the number of false passes, plus one if it is one; it saturates at 2^64 - 1
unfoldable pub counted_when : Bool → ℕ → ℕ
counted_when true passes = min (passes + 1) (2 ^ 64 - 1)
counted_when false passes = passes

-- a step that is no delivery, or in which nothing is received
abbrev pub quiet_step : WorldState → Delivery × StepKind → WorldState × Step
quiet_step w (delivery, kind) = (record w { delivery = delivery }, record { kind = kind; false_pass = false })

-- a step in which a packet (PDU) is received
abbrev pub heard_step : WorldState → Bool → Delivery × StepKind → WorldState × Step
heard_step w false_pass (delivery, kind) =
    (record { delivery = delivery; false_passes = counted_when false_pass w.false_passes }, record { kind = kind; false_pass = false_pass })

-- the event of the delivery if a packet is received in that direction, and the newest transmission of that direction
abbrev pub heard_by : Way → Packet → Happening
heard_by Packets packet = Data_heard packet
heard_by Answers packet = Answer_heard packet

unfoldable pub newest_by : Way → Delivery → Option Packet
newest_by Packets delivery = delivery.packet_sent
newest_by Answers delivery = delivery.answer

-- a delivery in that direction: a packet is received by its station, and if there is none the step has the reason
unfoldable pub delivered : WorldState → Way → Result (Packet × Bool) StepKind → WorldState × Step
delivered w way (Err kind) = quiet_step w (w.delivery, kind)
delivered w way (Ok (packet, false_pass)) = heard_step w false_pass (happens w.delivery (heard_by way packet))

abbrev pub delivery_step : WorldState → Way → List ℕ → WorldState × Step
delivery_step w way flips = delivered w way (delivery_of way (newest_by way w.delivery) flips)

-- the effect of an event on the world, and its step
unfoldable pub world_step : WorldState → Event → WorldState × Step
world_step w (Send message) = quiet_step w (happens w.delivery (Offering message))
world_step w Timeout = quiet_step w (happens w.delivery Time_up)
world_step w Reopen = quiet_step w (happens w.delivery Opening_again)
world_step w (ToReceiver flips) = delivery_step w Packets flips
world_step w (ToSender flips) = delivery_step w Answers flips
