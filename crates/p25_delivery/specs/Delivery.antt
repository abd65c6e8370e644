-- A delivery between two stations: the half of the one that sends, the half of the other that receives, and the newest transmission of each
-- direction. The effect of each event on it, and the sessions of its messages.
use Rattle.std.specs.Prelude.{ℕ, ◌+◌, ◌*◌, ◌-◌, ◌%◌, List, [], ◌∷◌, length, Option, Some, None}
use Rattle.p25_bits.specs.Bits.{part}
use Rattle.p25_delivery.specs.{SenderRules.{offered, timed_out, sender_heard, reopened, is_opening}, ReceiverRules.{receiver_heard}, Runs.{run_by}}
use Rattle.p25_delivery.specs.Halves.{Outgoing, Incoming, first_outgoing, first_incoming, Mark}
use Rattle.p25_delivery.specs.HalfRules.{mark_of, after_offer, after_timeout, after_reopening, after_data, after_answer, Packet, StepKind}

-- an event of a delivery: a message is offered, a timeout, the session is reopened, or a station receives a packet
pub data Happening : Type 0 where
  Offering : (message : List ℕ) → Happening
  Time_up : Happening
  Opening_again : Happening
  Data_heard : (packet : Packet) → Happening
  Answer_heard : (packet : Packet) → Happening

-- both halves, and the newest transmission of each direction
pub record Delivery : Type 0 where
  pub outbound : Outgoing
  pub inbound : Incoming
  pub packet_sent : Option Packet
  pub answer : Option Packet

-- a delivery before the first event
abbrev pub first_delivery : Delivery
first_delivery = record { outbound = first_outgoing; inbound = first_incoming; packet_sent = None; answer = None }

-- the newest transmission of a direction after a call: that of the call, or otherwise the former one
unfoldable pub newest_after : Option Packet → Option Packet → Option Packet
newest_after (Some packet) newest = Some packet
newest_after None newest = newest

-- a delivery after a call of its sending half, or of its receiving half, and the type of step
unfoldable pub with_outbound : Delivery → Outgoing × (StepKind × Option Packet) → Delivery × StepKind
with_outbound w (o, (kind, packet)) = (record w { outbound = o; packet_sent = newest_after packet w.packet_sent }, kind)

unfoldable pub with_inbound : Delivery → Incoming × (StepKind × Option Packet) → Delivery × StepKind
with_inbound w (i, (kind, packet)) = (record w { inbound = i; answer = newest_after packet w.answer }, kind)

-- the delivery after an event, and the type of its step
unfoldable pub happens : Delivery → Happening → Delivery × StepKind
happens w (Offering message) = with_outbound w (after_offer w.outbound message (offered w.outbound.sender message))
happens w Time_up = with_outbound w (after_timeout w.outbound (timed_out w.outbound.sender))
happens w Opening_again =
    with_outbound w (after_reopening w.outbound (length w.inbound.received) (is_opening w.outbound.sender.outstanding) (reopened w.outbound.sender))
happens w (Data_heard packet) = with_inbound w (after_data w.inbound (receiver_heard w.inbound.receiver packet))
happens w (Answer_heard packet) = with_outbound w (after_answer w.outbound (sender_heard w.outbound.sender packet))

-- all events, in order
abbrev pub delivery_run : Delivery → List Happening → Delivery
delivery_run w events = run_by happens w events

-- the messages of one session: those sent, those delivered, and the number of those acknowledged
pub record Session : Type 0 where
  pub sent : List (List ℕ)
  pub delivered : List (List ℕ)
  pub acknowledged : ℕ

-- a session in which nothing was sent
abbrev pub empty_session : Session
empty_session = record { sent = []; delivered = []; acknowledged = 0 }

-- the mark before all messages, and one with the numbers of this moment
abbrev pub first_mark : Mark
first_mark = record { sent = 0; delivered = 0; acknowledged = 0 }

abbrev pub present_mark : Delivery → Mark
present_mark w = mark_of w.outbound (length w.inbound.received)

-- the session between two marks of a delivery
abbrev pub session_between : Mark → Mark → Delivery → Session
session_between from to w =
    record {
      sent = part from.sent (to.sent - from.sent) w.outbound.sent;
      delivered = part from.delivered (to.delivered - from.delivered) w.inbound.received;
      acknowledged = to.acknowledged - from.acknowledged;
    }

-- the sessions of a delivery from a mark on: each is between two neighbouring marks, and the last after all marks
unfoldable pub sessions_from : Mark → List Mark → Delivery → List Session
sessions_from from [] w = session_between from (present_mark w) w ∷ []
sessions_from from (mark ∷ marks) w = session_between from mark w ∷ sessions_from mark marks w

-- the sessions of a delivery: those between its marks, the first before all of them and the last after them
abbrev pub sessions_of : Delivery → List Session
sessions_of w = sessions_from first_mark w.outbound.marks w

-- the last mark of a list of marks, or the one before them
unfoldable pub last_mark : Mark → List Mark → Mark
last_mark from [] = from
last_mark from (mark ∷ marks) = last_mark mark marks

-- the present session: the messages sent, delivered and acknowledged after the last mark
abbrev pub present_session : Delivery → Session
present_session w = session_between (last_mark first_mark w.outbound.marks) (present_mark w) w

-- the number of the first message of the present session: each message that was acknowledged in a session before took one number, and each session
-- that ended took five, from that of the message given up to that of the opening packet
abbrev pub first_number : Delivery → ℕ
first_number w = ((last_mark first_mark w.outbound.marks).acknowledged + 5 * length w.outbound.marks) % 8
