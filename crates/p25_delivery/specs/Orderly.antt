-- Runs in which each received packet (PDU) is true to the transmitted one, and the guarantees for each session.
use Rattle.std.specs.Prelude.{◌≡◌, ◌≤◌, ◌⊎◌, List, [], ◌∷◌, length, Option, Some, ℕ, ◌+◌, ◌++◌, flat_map, sum_by}
use Rattle.p25_packet_blocks.specs.{declared.block.Slot.{Slot, TheVariants.{Bad}}, declared.packet.Packet.{Packet, TheVariants.{Confirmed, Plain}}}
use Rattle.p25_delivery.specs.{Runs.{MeetAt, EachIs}, Delivery.{Delivery, Happening, Offering, Data_heard, Answer_heard, happens, Session, sessions_of}}

-- each slot is `Bad`, or the transmitted one
unfoldable pub AreTrueSlots : List Slot → List Slot → Type 0
AreTrueSlots [] [] = Unit {0}
AreTrueSlots (was ∷ sent) (slot ∷ slots) = ((slot ≡ Bad) ⊎ (slot ≡ was)) × AreTrueSlots sent slots
AreTrueSlots sent slots = ⊥

-- a received packet is true to the transmitted one: the same header, and the same octets or slots, except those that are `Bad`
unfoldable pub IsTrueTo : Packet → Packet → Type 0
IsTrueTo (Confirmed sent) (Confirmed heard) = (heard.head ≡ sent.head) × AreTrueSlots sent.slots heard.slots
IsTrueTo (Plain sent) (Plain heard) = heard ≡ sent
IsTrueTo sent heard = ⊥

-- a received packet is true to the newest transmission
pub record IsHeardOf (newest : Option Packet) (packet : Packet) : Type 0 where
  pub sent : Packet
  pub newest_is : newest ≡ Some sent
  pub true_to : IsTrueTo sent packet

-- an offered message has at most 2,028 octets, and a received packet is true to the transmitted one
unfoldable pub IsClean : Delivery → Happening → Type 0
IsClean w (Offering message) = length message ≤ 2028
IsClean w (Data_heard packet) = IsHeardOf w.packet_sent packet
IsClean w (Answer_heard packet) = IsHeardOf w.answer packet
IsClean w other = Unit {0}

abbrev pub IsCleanRun : Delivery → List Happening → Type 0
IsCleanRun w events = MeetAt happens IsClean w events

-- the delivered messages are the beginning of the sent ones, in order and each once; each acknowledged message was delivered; and at most one message
-- is delivered that is not acknowledged
pub record IsOrderly (session : Session) : Type 0 where
  pub rest : List (List ℕ)
  pub beginning : session.sent ≡ session.delivered ++ rest
  pub acknowledged : session.acknowledged ≤ length session.delivered
  pub delivered : length session.delivered ≤ session.acknowledged + 1

-- each of a list of sessions is orderly
abbrev pub AreOrderly : List Session → Type 0
AreOrderly sessions = EachIs IsOrderly sessions

-- the counts of a session in any run, clean or not: each acknowledged message was sent, and at most one message is sent that is not acknowledged
pub record IsCounted (session : Session) : Type 0 where
  pub acknowledged : session.acknowledged ≤ length session.sent
  pub sent : length session.sent ≤ session.acknowledged + 1

-- each of a list of sessions has such counts
abbrev pub AreCounted : List Session → Type 0
AreCounted sessions = EachIs IsCounted sessions

-- the sessions of a delivery make up its lists: end to end all messages that were sent and all that were delivered, in their counts all that were
-- acknowledged, and there is one more than messages were given up
pub record AreWhole (w : Delivery) : Type 0 where
  pub sent : flat_map (λ session. session.sent) (sessions_of w) ≡ w.outbound.sent
  pub delivered : flat_map (λ session. session.delivered) (sessions_of w) ≡ w.inbound.received
  pub acknowledged : sum_by (λ session. session.acknowledged) (sessions_of w) ≡ w.outbound.acknowledged
  pub count : length (sessions_of w) ≡ length w.outbound.marks + 1
