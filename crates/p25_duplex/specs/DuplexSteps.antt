-- The two stations of a duplex world, each with a half that sends and one that receives; the effect of each event on them, and its step.
use Rattle.std.specs.Prelude.{ℕ, List, codes, Option, None, Bool, true, false, ◌==◌, Result, Ok, Err}
pub use Rattle.p25_duplex.specs.declared.side.Side.{Side, TheVariants.{A, B}}
pub use Rattle.p25_packet_blocks.specs.declared.packet.Packet.{Packet}
use Rattle.p25_delivery.specs.Halves.{Outgoing, Incoming, first_outgoing, first_incoming}
use Rattle.p25_delivery.specs.Delivery.{Delivery, Offering, Time_up, Opening_again, Data_heard, Answer_heard, happens}
use Rattle.p25_packet_blocks.specs.{Whole.{packet_head}, Heads.{response_format, head_format}}
use Rattle.p25_stations.specs.{declared.step.Step.{Step}, Steps.{counted_when, Packets, StepKind, delivery_of}}
pub use Rattle.p25_duplex.specs.declared.event.{DuplexEvent.{DuplexEvent, TheVariants.{Send, Timeout, Reopen, Deliver}}, DuplexStep.{DuplexStep}}

-- the other station
abbrev pub other_side : Side → Side
other_side A = B
other_side B = A

-- the word for a station in scripts and texts
abbrev pub side_word : Side → List ℕ
side_word A = codes "a"
side_word B = codes "b"

-- a station: both halves, and the newest transmission of its direction, which is data or a response
pub record StationState : Type 0 where
  pub outbound : Outgoing
  pub inbound : Incoming
  pub newest : Option Packet

-- both stations, and the number of false passes
pub record DuplexState : Type 0 where
  pub a : StationState
  pub b : StationState
  pub false_passes : ℕ

-- a station before the first step, and a duplex world
abbrev pub first_station : StationState
first_station = record { outbound = first_outgoing; inbound = first_incoming; newest = None }

abbrev pub first_duplex : DuplexState
first_duplex = record { a = first_station; b = first_station; false_passes = 0 }

-- the station of a side
abbrev pub station_at : Side → DuplexState → StationState
station_at A d = d.a
station_at B d = d.b

-- a duplex world with another station on a side
abbrev pub with_station : Side → StationState → DuplexState → DuplexState
with_station A station d = record d { a = station }
with_station B station d = record d { b = station }

-- the delivery of a station's messages: its half that sends, the other's half that receives, and the newest transmission of each
abbrev pub delivery_between : StationState → StationState → Delivery
delivery_between own other =
    record { outbound = own.outbound; inbound = other.inbound; packet_sent = own.newest; answer = other.newest }

-- the delivery of a side's messages
abbrev pub delivery_at : Side → DuplexState → Delivery
delivery_at side d = delivery_between (station_at side d) (station_at (other_side side) d)

-- a station after a call of its half that sends, which is an event of the delivery of its own messages
abbrev pub after_sending : StationState → Delivery × StepKind → StationState × StepKind
after_sending own (delivery, kind) = (record own { outbound = delivery.outbound; newest = delivery.packet_sent }, kind)

-- a station after a call of its half that receives, which is an event of the delivery of the other's messages
abbrev pub after_receiving : StationState → Delivery × StepKind → StationState × StepKind
after_receiving own (delivery, kind) = (record own { inbound = delivery.inbound; newest = delivery.answer }, kind)

-- a response is a packet (PDU) of format 03 hex; every other is data
abbrev pub is_answer : Packet → Bool
is_answer packet = head_format (packet_head packet) == response_format

-- a station receives a packet (PDU): a response by its half that sends, data by its half that receives
abbrev pub heard_as : Bool → StationState → StationState → Packet → StationState × StepKind
heard_as true own other packet = after_sending own (happens (delivery_between own other) (Answer_heard packet))
heard_as false own other packet = after_receiving own (happens (delivery_between other own) (Data_heard packet))

-- a step of a station, by its type and whether it was a false pass
abbrev pub station_told : Bool → StationState × StepKind → StationState × Step
station_told false_pass (station, kind) = (station, record { kind = kind; false_pass = false_pass })

-- a delivered packet arrives at a station
abbrev pub delivered_at : StationState → StationState → Result (Packet × Bool) StepKind → StationState × Step
delivered_at own other (Err kind) = station_told false (own, kind)
delivered_at own other (Ok (packet, false_pass)) = station_told false_pass (heard_as (is_answer packet) own other packet)

-- the side of an event: that which acts or receives
abbrev pub side_of : DuplexEvent → Side
side_of (Send side message) = side
side_of (Timeout side) = side
side_of (Reopen side) = side
side_of (Deliver to flips) = to

-- the effect of an event on the station at which it happens, beside the other, and the step of that station
abbrev pub station_step : StationState → StationState → DuplexEvent → StationState × Step
station_step own other (Send side message) = station_told false (after_sending own (happens (delivery_between own other) (Offering message)))
station_step own other (Timeout side) = station_told false (after_sending own (happens (delivery_between own other) Time_up))
station_step own other (Reopen side) = station_told false (after_sending own (happens (delivery_between own other) Opening_again))
station_step own other (Deliver to flips) = delivered_at own other (delivery_of Packets other.newest flips)

-- a duplex world after the step of a station of it
abbrev pub after_step : Side → DuplexState → StationState × Step → DuplexState × DuplexStep
after_step side d (station, step) =
    (record (with_station side station d) { false_passes = counted_when step.false_pass d.false_passes }, record { side = side; step = step })

-- the effect of an event on the duplex world, and its step
unfoldable pub duplex_step : DuplexState → DuplexEvent → DuplexState × DuplexStep
duplex_step d event =
    let side = side_of event in
    after_step side d (station_step (station_at side d) (station_at (other_side side) d) event)
