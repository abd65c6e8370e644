-- The states of a station: a sender, a receiver, and the two halves over them, one for the messages that it sends and one for those of the other
-- station.
use Rattle.std.specs.Prelude.{ℕ, ◌<◌, ◌≤◌, Bool, false, List, [], Option, None}
use Rattle.p25_packet_blocks.specs.Parts.{BlockParts}
pub use Rattle.p25_delivery.specs.declared.sender.Outstanding.{Outstanding, TheVariants.{Nothing, Message, Opening}}
pub use Rattle.p25_delivery.specs.declared.outbound.Mark.{Mark}

-- the number of the next message, or of the outstanding one; the outstanding packet; the number of its transmissions; and whether the sender is down
pub record Sending : Type 0 where
  pub next : ℕ
  pub outstanding : Outstanding
  pub tries : ℕ
  pub down : Bool

-- the number of an opening packet has three bits
unfoldable pub IsNumbered : Outstanding → Type 0
IsNumbered (Opening number) = number < 8
IsNumbered other = Unit {0}

-- the invariant of a sender
pub record IsSending (sender : Sending) : Type 0 where
  pub next : sender.next < 8
  pub outstanding : IsNumbered sender.outstanding
  pub tries : sender.tries ≤ 16

-- the entries for a message that was not received whole, each empty or with its block, and the number of its pad octets
pub record Keeping : Type 0 where
  pub places : List (Option BlockParts)
  pub pad : ℕ

-- V(R), the number of the last delivered message, and the blocks kept of the next one
pub record Receiving : Type 0 where
  pub last : ℕ
  pub kept : Option Keeping

-- a sender and a receiver before the first message
abbrev pub first_sending : Sending
first_sending = record { next = 0; outstanding = Nothing; tries = 0; down = false }

abbrev pub first_receiving : Receiving
first_receiving = record { last = 7; kept = None }

-- the sending half: its sender, the messages that it sent, the number of them that were acknowledged, and a mark for each session that has ended
pub record Outgoing : Type 0 where
  pub sender : Sending
  pub sent : List (List ℕ)
  pub acknowledged : ℕ
  pub marks : List Mark

-- the receiving half: its receiver, and the messages that it delivered
pub record Incoming : Type 0 where
  pub receiver : Receiving
  pub received : List (List ℕ)

-- a half, a station or a world as contracts see it: its state, and the number of calls or steps for which it has capacity
pub record Roomy (State : Type 0) : Type 0 where
  pub state : State
  pub spare : ℕ

-- the halves before anything is sent
abbrev pub first_outgoing : Outgoing
first_outgoing = record { sender = first_sending; sent = []; acknowledged = 0; marks = [] }

abbrev pub first_incoming : Incoming
first_incoming = record { receiver = first_receiving; received = [] }
