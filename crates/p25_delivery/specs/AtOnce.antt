-- The effect of a message, and of a reopening, if every packet is received as transmitted.
use Rattle.std.specs.Prelude.{◌≡◌, ℕ, List, length, None}
use Rattle.p25_packet_blocks.specs.declared.packet.Packet.{Packet}
use Rattle.p25_delivery.specs.{MessageBlocks.{block_count}, Halves.{Sending, Receiving}}
use Rattle.p25_delivery.specs.SenderRules.{sending_after, offered, sender_heard, reopened, Taken, Acknowledged, Opened as SenderOpened, ReopenSent}
use Rattle.p25_delivery.specs.ReceiverRules.{receiver_heard, Delivered, Opened}

-- a message is taken, its packet delivers it, and the response to that acknowledges it
pub record DeliversAtOnce (sender : Sending) (receiver : Receiving) (message : List ℕ) : Type 0 where
  pub packet : Packet
  pub answer : Packet
  pub waits : Sending
  pub after : Receiving
  pub taken : offered sender message ≡ (waits, Taken sender.next (block_count (length message)) packet)
  pub delivered : receiver_heard receiver packet ≡ (after, Delivered sender.next message answer)
  pub acknowledged : sender_heard waits answer ≡ (sending_after sender.next, Acknowledged sender.next)

-- a reopening transmits the opening packet, which opens the receiver, and the response to that opens the sender
pub record OpensAtOnce (sender : Sending) (receiver : Receiving) : Type 0 where
  pub number : ℕ
  pub packet : Packet
  pub answer : Packet
  pub waits : Sending
  pub sent : reopened sender ≡ (waits, ReopenSent number packet)
  pub heard : receiver_heard receiver packet ≡ (record { last = number; kept = None }, Opened number answer)
  pub opened : sender_heard waits answer ≡ (sending_after number, SenderOpened number)
