-- The invariants of a half of a station, whatever it receives, and its fields as contracts see them.
use Rattle.std.specs.Prelude.{◌≡◌, ℕ, ◌+◌, ◌-◌, ◌<◌, ◌≤◌, min, false, List, length, vec_len, vec_capacity, IfSome}
use Rattle.p25_packet_blocks.specs.Sendable.{AreOctets}
use Rattle.p25_delivery.specs.Halves.{Outstanding, Nothing, Message, Opening, IsSending, Receiving, Outgoing, Incoming}
use Rattle.p25_delivery.specs.{declared.outbound.Outbound.TheInside.{Inside as OutboundInside}, declared.inbound.Inbound.TheInside.{Inside as InboundInside}}

-- a message of octets, at most 2,028
pub record IsMessage (message : List ℕ) : Type 0 where
  pub short : length message ≤ 2028
  pub octets : AreOctets message

-- an outstanding message is one
unfoldable pub IsMessageIn : Outstanding → Type 0
IsMessageIn (Message message) = IsMessage message
IsMessageIn other = Unit {0}

-- among the messages sent are those acknowledged, those with which a session ended, and the outstanding one, all different. If nothing is outstanding
-- the sender is up, and no transmission is counted
unfoldable pub IsCountedWith : Outstanding → Outgoing → Type 0
IsCountedWith Nothing o =
    (o.sender.down ≡ false) × (o.sender.tries ≡ 0) × (o.acknowledged + length o.marks ≤ length o.sent)
IsCountedWith (Message message) o = o.acknowledged + length o.marks + 1 ≤ length o.sent
IsCountedWith (Opening number) o = o.acknowledged + length o.marks ≤ length o.sent

-- the invariant of a sending half
pub record IsOutgoing (o : Outgoing) : Type 0 where
  pub sender : IsSending o.sender
  pub message : IsMessageIn o.sender.outstanding
  pub counted : IsCountedWith o.sender.outstanding o

-- the invariant of a receiver, and so of a receiving half: it keeps at most 127 blocks
pub record IsReceiving (r : Receiving) : Type 0 where
  pub last : r.last < 8
  pub kept : IfSome r.kept (λ kept. length kept.places ≤ 127)

abbrev pub IsIncoming : Incoming → Type 0
IsIncoming i = IsReceiving i.receiver

-- the state of a sending half, and that of a receiving one
abbrev pub outgoing_of : OutboundInside → Outgoing
outgoing_of o = record { sender = o.sender; sent = o.sent.list; acknowledged = o.acknowledged; marks = o.marks.items }

abbrev pub incoming_of : InboundInside → Incoming
incoming_of i = record { receiver = i.receiver; received = i.received.list }

-- the number of calls for which a sending half has capacity: one more message sent, and one more session ended in each
abbrev pub outgoing_spare : OutboundInside → ℕ
outgoing_spare o = min o.sent.spare (vec_capacity o.marks - vec_len o.marks)
