-- The transmissions of a delivery are data in one direction and responses in the other, by the facts that it keeps. And a packet that is true to
-- another is of its type.
use Rattle.std.proofs.Common.{◌≡◌, ℕ, ◌+◌, ◌%◌, inl, inr, Bool, true, false, List, Option, Some, refl, ap, sym, subst}
use Rattle.std.specs.Prelude.{IfSome, eqb}
use Rattle.p25_packet_blocks.specs.{declared.packet.Packet.{Packet}, declared.packet.Packet.TheVariants.{Confirmed, Plain}, declared.head.PacketHead.{PacketHead}}
use Rattle.p25_packet_blocks.specs.Heads.{head_format, confirmed_head, response_head, opening_head}
use Rattle.p25_delivery.specs.{Places.{held_flags}, SentPackets.{message_packet, blocks_packet, opening_packet, short_response, ack_packet, retry_packet}, declared.sender.Outstanding.{Outstanding}}
use Rattle.p25_delivery.specs.{declared.sender.Outstanding.TheVariants.{Opening}, Delivery.{Delivery, Session}, Orderly.{IsTrueTo}}
use Rattle.p25_delivery.specs.Facts.{IsDataOf, IsNewestData, SessionFacts, FactsBy, DeliveryFacts}
use Rattle.p25_duplex.specs.DuplexSteps.{is_answer}

abbrev pub IsData : Packet → Type 0
IsData packet = is_answer packet ≡ false

abbrev pub IsAnswer : Packet → Type 0
IsAnswer packet = is_answer packet ≡ true

-- The packets of the stations.

message-data : (number : ℕ) (message : List ℕ) → IsData (message_packet number message)
unfolding message_packet head_format confirmed_head
message-data number message = refl

blocks-data : (number : ℕ) (message : List ℕ) (wanted : List Bool) → IsData (blocks_packet number message wanted)
unfolding blocks_packet head_format confirmed_head
blocks-data number message wanted = refl

opening-data : (number : ℕ) → IsData (opening_packet number)
unfolding opening_packet head_format opening_head
opening-data number = refl

ack-answer : (status : ℕ) (packet : Packet) → packet ≡ ack_packet status → IsAnswer packet
unfolding short_response head_format response_head
ack-answer status packet e = rw e refl

retry-answer : (status : ℕ) (flags : List Bool) (packet : Packet) → packet ≡ retry_packet status flags → IsAnswer packet
unfolding retry_packet head_format response_head
retry-answer status flags packet e = rw e refl

data-of : (number : ℕ) (message : List ℕ) (packet : Packet) → IsDataOf number message packet → IsData packet
unfolding IsDataOf
data-of number message packet (inl e) = rw e (message-data number message)
data-of number message packet (inr (wanted, e)) = rw e (blocks-data number message wanted)

newest-data : (b : ℕ) (s : Session) (packet : Packet) → IsNewestData b s packet → IsData packet
unfolding IsNewestData
newest-data b s packet (inl (none, e)) = rw e (opening-data ((b + 7) % 8))
newest-data b s packet (inr (earlier, message, e, of)) = data-of _ message packet of

-- The transmissions of a delivery.

-- the newest transmission, if it is such a packet
newest-is : (newest : Option Packet) (P : Packet → Type 0) (packet : Packet) → IfSome newest P → newest ≡ Some packet → P packet
newest-is newest P packet h e = rw e at h

session-data : (b : ℕ) (s : Session) (w : Delivery) (packet : Packet) → SessionFacts b s w → w.packet_sent ≡ Some packet → IsData packet
session-data b s w packet f e = newest-data b s packet (newest-is w.packet_sent (IsNewestData b s) packet f.newest_data e)

sent-by : (o : Outstanding) (b : ℕ) (s : Session) (w : Delivery) (packet : Packet) → FactsBy o b s w → w.packet_sent ≡ Some packet → IsData packet
unfolding FactsBy
sent-by (Opening number) b s w packet f e = newest-is w.packet_sent IsData packet (rw f.newest_data (opening-data number)) e
sent-by o b s w packet f e = session-data b s w packet f e

pub sent-data : (w : Delivery) (packet : Packet) → DeliveryFacts w → w.packet_sent ≡ Some packet → IsData packet
sent-data w packet f e = sent-by w.outbound.sender.outstanding _ _ w packet f e

session-answer : (b : ℕ) (s : Session) (w : Delivery) (packet : Packet) → SessionFacts b s w → w.answer ≡ Some packet → IsAnswer packet
session-answer b s w packet f e =
    elim (newest-is w.answer _ packet f.newest_answer e) [
      | inl is ↦ ack-answer w.inbound.receiver.last packet is
      | inr (kept, k, is) ↦ retry-answer ((w.inbound.receiver.last + 1) % 8) (held_flags kept.places) packet is
    ]

answer-by : (o : Outstanding) (b : ℕ) (s : Session) (w : Delivery) (packet : Packet) → FactsBy o b s w → w.answer ≡ Some packet → IsAnswer packet
unfolding FactsBy
answer-by (Opening number) b s w packet f e =
    elim (newest-is w.answer _ packet f.newest_answer e) [
      | inl is ↦ ack-answer w.inbound.receiver.last packet is
      | inr (away, flags, is) ↦ retry-answer ((number + 4) % 8) flags packet is
    ]
answer-by o b s w packet f e = session-answer b s w packet f e

pub answered-answer : (w : Delivery) (packet : Packet) → DeliveryFacts w → w.answer ≡ Some packet → IsAnswer packet
answered-answer w packet f e = answer-by w.outbound.sender.outstanding _ _ w packet f e

-- a packet that is true to another is data or a response as that is
pub true-kind : (sent packet : Packet) → IsTrueTo sent packet → is_answer sent ≡ is_answer packet
unfolding IsTrueTo
true-kind (Confirmed sent) (Confirmed heard) t = cc
true-kind (Plain sent) (Plain heard) t = cc
true-kind sent packet t = absurd t
