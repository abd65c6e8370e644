-- Runs of the duplex world: its state and its steps after a list of events, and the delivery of the messages of a side.
use Rattle.std.specs.Prelude.{◌≡◌, ℕ, Bool, true, false, ◌&&◌, List, [], ◌∷◌, ◌++◌, count_by, Option, Some, None, if◌then◌else◌}
use Rattle.p25_delivery.specs.{SoundHalves.{IsMessage}, Runs.{run_by, steps_by, EachIs}, Delivery.{Delivery, newest_after}, Facts.{DeliveryFacts}}
use Rattle.p25_messages.specs.declared.step_kind.StepKind.{StepKind, TheVariants.{Taken}}
use Rattle.p25_stations.specs.Runs.{delivered_by, is_acknowledged}
pub use Rattle.p25_duplex.specs.DuplexSteps.{DuplexState, first_duplex, station_at, delivery_at, Side, A, B, other_side, side_of}
pub use Rattle.p25_duplex.specs.DuplexSteps.{Packet, is_answer, DuplexEvent, Send, DuplexStep, duplex_step}

-- the invariant of an event: a sent message has at most 2,028 octets
unfoldable pub IsDuplexEvent : DuplexEvent → Type 0
IsDuplexEvent (Send side message) = IsMessage message
IsDuplexEvent other = Unit {0}

abbrev pub AreDuplexEvents : List DuplexEvent → Type 0
AreDuplexEvents events = EachIs IsDuplexEvent events

-- the duplex world after a list of events, and the steps that they are
abbrev pub duplex_run : DuplexState → List DuplexEvent → DuplexState
duplex_run d events = run_by duplex_step d events

abbrev pub duplex_steps : DuplexState → List DuplexEvent → List DuplexStep
duplex_steps d events = steps_by duplex_step d events

-- a duplex world to which some list of events leads from the first one
pub record HasDuplexHistory (d : DuplexState) : Type 0 where
  pub events : List DuplexEvent
  pub kept : AreDuplexEvents events
  pub run : duplex_run first_duplex events ≡ d

-- a run is clean if none of its steps is a false pass, in either direction
abbrev pub IsCleanDuplex : List DuplexEvent → Type 0
IsCleanDuplex events = EachIs (λ step. step.step.false_pass ≡ false) (duplex_steps first_duplex events)

-- the newest transmission of a direction if it is data, and if it is a response
abbrev pub data_in : Option Packet → Option Packet
data_in None = None
data_in (Some packet) = if is_answer packet then None else Some packet

abbrev pub answer_in : Option Packet → Option Packet
answer_in None = None
answer_in (Some packet) = if is_answer packet then Some packet else None

-- the newest transmission of one of these types that a side's direction carried up to the end of a run, by that before the run
unfoldable pub newest_in : (Option Packet → Option Packet) → Side → Option Packet → DuplexState → List DuplexEvent → Option Packet
newest_in kind side newest d [] = newest
newest_in kind side newest d (event ∷ events) =
    let next = (duplex_step d event).0 in
    newest_in kind side (newest_after (kind (station_at side next).newest) newest) next events

-- the delivery of a side's messages after a list of events, with the newest data of its direction and the newest response of the other's
abbrev pub delivery_after : Side → List DuplexEvent → Delivery
delivery_after side events =
    record (delivery_at side (duplex_run first_duplex events)) {
      packet_sent = newest_in data_in side None first_duplex events;
      answer = newest_in answer_in (other_side side) None first_duplex events;
    }

-- there is a delivery with the same two halves for which the facts hold
pub record HasFacts (w : Delivery) : Type 0 where
  pub delivery : Delivery
  pub facts : DeliveryFacts delivery
  pub outbound : delivery.outbound ≡ w.outbound
  pub inbound : delivery.inbound ≡ w.inbound

-- whether both are one side
abbrev pub is_side : Side → Side → Bool
is_side A A = true
is_side B B = true
is_side side other = false

-- the message of a step in which a side receives one that is delivered, and none of any other
abbrev pub side_heard_by : Side → DuplexStep → List (List ℕ)
side_heard_by side step = if is_side side step.side then delivered_by step.step.kind else []

-- the message of an event whose step is Taken, and none of any other; and the same of the events of a side
abbrev pub offered_by : DuplexEvent → StepKind → List (List ℕ)
offered_by (Send side message) (Taken number blocks) = message ∷ []
offered_by event kind = []

abbrev pub side_sent_by : Side → DuplexEvent → DuplexStep → List (List ℕ)
side_sent_by side event step = if is_side side (side_of event) then offered_by event step.step.kind else []

-- the messages of the Delivered steps of a side, in order: those that it receives
unfoldable pub side_heard_in : Side → List DuplexStep → List (List ℕ)
side_heard_in side [] = []
side_heard_in side (step ∷ steps) = side_heard_by side step ++ side_heard_in side steps

-- the messages of a side's events whose steps are Taken, in order
unfoldable pub side_sent_in : Side → List DuplexEvent → List DuplexStep → List (List ℕ)
side_sent_in side [] steps = []
side_sent_in side events [] = []
side_sent_in side (event ∷ events) (step ∷ steps) = side_sent_by side event step ++ side_sent_in side events steps

-- the number of a side's Acknowledged steps
abbrev pub side_acknowledged_in : Side → List DuplexStep → ℕ
side_acknowledged_in side steps = count_by (λ (step : DuplexStep). is_side side step.side && is_acknowledged step.step.kind) steps
