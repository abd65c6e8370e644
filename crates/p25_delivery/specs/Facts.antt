-- The facts that a delivery keeps in a clean run, by its outstanding packet. s represents the present session, and b the number of its first message.
use Rattle.std.specs.Prelude.{◌≡◌, ◌≢◌, ℕ, ◌+◌, ◌-◌, ◌%◌, ◌<◌, ◌⊎◌, Bool, List, [], ◌∷◌, ◌++◌, length, take, slice_index_or, None, Some, IfSome}
use Rattle.p25_delivery.specs.{MessageBlocks.{block_count, pad_count, message_block}, Places.{held_flags}}
use Rattle.p25_delivery.specs.SentPackets.{message_packet, blocks_packet, opening_packet, ack_packet, retry_packet, Packet}
use Rattle.p25_delivery.specs.Halves.{Keeping, Outstanding, Nothing, Message, Opening}
use Rattle.p25_delivery.specs.Delivery.{Delivery, Session, empty_session, present_session, first_number}

-- a packet (PDU) with a message, or with some of its blocks, as a sender transmits it
unfoldable pub IsDataOf : ℕ → List ℕ → Packet → Type 0
IsDataOf number message packet = (packet ≡ message_packet number message) ⊎ ((wanted : List Bool) × (packet ≡ blocks_packet number message wanted))

-- the entries for a message, some of which are held, and its pad
pub record KeepsOf (message : List ℕ) (kept : Keeping) : Type 0 where
  pub count : length kept.places ≡ block_count (length message)
  pub pad_is : kept.pad ≡ pad_count (length message)
  pub held : (j : ℕ) → j < block_count (length message) →
      (slice_index_or kept.places j None ≡ None) ⊎ (slice_index_or kept.places j None ≡ Some (message_block message j))

-- while the opening packet with a number is outstanding
pub record OpeningFacts (number : ℕ) (s : Session) (w : Delivery) : Type 0 where
  -- nothing was sent, delivered or acknowledged
  pub nothing_yet : s ≡ empty_session
  -- the opening packet is the newest transmission of data
  pub newest_data : w.packet_sent ≡ Some (opening_packet number)
  -- it was received, or V(R) is still that of the session before
  pub place : ((w.inbound.receiver.last ≡ number) × (w.inbound.receiver.kept ≡ None)) ⊎
      ((w.inbound.receiver.last ≡ (number + 3) % 8) ⊎ (w.inbound.receiver.last ≡ (number + 4) % 8))
  -- the newest response is ACK of V(R), or selective retry of the message that was given up, while the packet was not received
  pub newest_answer : IfSome w.answer (λ packet. (packet ≡ ack_packet w.inbound.receiver.last) ⊎
      ((w.inbound.receiver.last ≢ number) × (flags : List Bool) × (packet ≡ retry_packet ((number + 4) % 8) flags)))

-- the number of messages sent, by the outstanding packet: as many as were acknowledged, or one more, which is the last
unfoldable pub SentBy : Outstanding → Session → Type 0
SentBy Nothing s = length s.sent ≡ s.acknowledged
SentBy (Message message) s = (length s.sent ≡ s.acknowledged + 1) × ((earlier : List (List ℕ)) × (s.sent ≡ earlier ++ message ∷ []))
SentBy (Opening number) s = ⊥

-- the newest transmission of data: the opening packet if nothing was sent, otherwise one of the last message sent
unfoldable pub IsNewestData : ℕ → Session → Packet → Type 0
IsNewestData b s packet =
    ((s.sent ≡ []) × (packet ≡ opening_packet ((b + 7) % 8))) ⊎
    ((earlier : List (List ℕ)) × (message : List ℕ) × (s.sent ≡ earlier ++ message ∷ []) ×
    IsDataOf ((b + length s.sent - 1) % 8) message packet)

-- at all other times
pub record SessionFacts (b : ℕ) (s : Session) (w : Delivery) : Type 0 where
  pub sent : SentBy w.outbound.sender.outstanding s
  pub number : w.outbound.sender.next ≡ (b + s.acknowledged) % 8
  -- as many were delivered as acknowledged, or one more with a message outstanding
  pub count : (length s.delivered ≡ s.acknowledged) ⊎
      ((length s.delivered ≡ s.acknowledged + 1) × (message : List ℕ) × (w.outbound.sender.outstanding ≡ Message message))
  pub last : w.inbound.receiver.last ≡ (b + length s.delivered + 7) % 8
  pub delivered : s.delivered ≡ take (length s.delivered) s.sent
  pub newest_data : IfSome w.packet_sent (IsNewestData b s)
  -- the blocks kept are of the outstanding message, which was not delivered
  pub kept : IfSome w.inbound.receiver.kept (λ kept. (length s.delivered ≡ s.acknowledged) × (message : List ℕ) ×
      (w.outbound.sender.outstanding ≡ Message message) × KeepsOf message kept)
  -- the newest response is ACK of V(R), or selective retry of the next message with a flag for each entry held
  pub newest_answer : IfSome w.answer (λ packet. (packet ≡ ack_packet w.inbound.receiver.last) ⊎
      ((kept : Keeping) × (w.inbound.receiver.kept ≡ Some kept) × (packet ≡ retry_packet ((w.inbound.receiver.last + 1) % 8) (held_flags kept.places))))

unfoldable pub FactsBy : Outstanding → ℕ → Session → Delivery → Type 0
FactsBy (Opening number) b s w = OpeningFacts number s w
FactsBy other b s w = SessionFacts b s w

-- the facts of a delivery
abbrev pub DeliveryFacts : Delivery → Type 0
DeliveryFacts w = FactsBy w.outbound.sender.outstanding (first_number w) (present_session w) w
