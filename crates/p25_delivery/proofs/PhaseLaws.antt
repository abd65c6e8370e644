-- The phases of a session: nothing is outstanding; a message is, and was not received or was; the opening packet is. And that the session is orderly
-- in each. s represents the present session, and b the number of its first message.
use Rattle.std.proofs.Common.{◌≡◌, ℕ, ◌+◌, ◌%◌, ◌<◌, ◌≤◌, ◌⊎◌, inl, inr, Bool, false, List, [], ◌∷◌, ◌++◌, length, Option, Some, None, ap, sym, ◌∙◌, subst, arith, length-append}
use Rattle.std.proofs.{lemmas.List.{append-nil}, lemmas.List.Elements.{All-push}}
use Rattle.std.specs.Prelude.{IfSome}
use Rattle.p25_packet_blocks.specs.declared.packet.Packet.{Packet}
use Rattle.p25_delivery.specs.{Places.{held_flags}, SentPackets.{ack_packet, retry_packet, opening_packet}, Halves.{Keeping, Receiving}}
use Rattle.p25_delivery.specs.{declared.sender.Outstanding.TheVariants.{Nothing, Message, Opening}, Delivery.{Delivery, Session, empty_session, sessions_of, present_session, first_number}}
use Rattle.p25_delivery.specs.{Orderly.{IsOrderly, AreOrderly}, Facts.{IsDataOf, KeepsOf}}
use Rattle.p25_delivery.proofs.{SessionLaws.{ended_sessions, sessions-split, IsDivided}, RunLaws.{each-all}}

-- the newest packet of data while nothing is outstanding: the opening packet, or one of the last message
abbrev pub IsQuietData : ℕ → List (List ℕ) → Packet → Type 0
IsQuietData last sent packet =
    ((sent ≡ []) × (packet ≡ opening_packet last)) ⊎ ((earlier : List (List ℕ)) × (message : List ℕ) × (sent ≡ earlier ++ message ∷ []) × (length message ≤ 2028) × IsDataOf last message packet)

pub record IsQuiet (last b : ℕ) (s : Session) (w : Delivery) : Type 0 where
  pub up : w.outbound.sender.down ≡ false
  pub outstanding : w.outbound.sender.outstanding ≡ Nothing
  pub small : last < 8
  pub last_is : w.inbound.receiver.last ≡ last
  pub next : w.outbound.sender.next ≡ (last + 1) % 8
  pub kept : w.inbound.receiver.kept ≡ None
  pub packet_sent : IfSome w.packet_sent (IsQuietData last s.sent)
  pub answer : IfSome w.answer (λ packet. packet ≡ ack_packet last)
  pub delivered : s.delivered ≡ s.sent
  pub acknowledged : s.acknowledged ≡ length s.sent
  pub counted : (last + 1) % 8 ≡ (b + s.acknowledged) % 8

-- the newest response while a message has not arrived: ACK of the one before, or selective retry for the blocks kept
abbrev pub IsWaitingAnswer : Receiving → ℕ → Packet → Type 0
IsWaitingAnswer r number packet =
    (packet ≡ ack_packet r.last) ⊎ ((kept : Keeping) × (r.kept ≡ Some kept) × (packet ≡ retry_packet number (held_flags kept.places)))

-- a message that is outstanding has not arrived
pub record IsWaiting (number : ℕ) (message : List ℕ) (s : Session) (r : Receiving) (answered : Option Packet) : Type 0 where
  pub last_small : r.last < 8
  pub sync : (r.last + 1) % 8 ≡ number
  pub kept : IfSome r.kept (KeepsOf message)
  pub answer : IfSome answered (IsWaitingAnswer r number)
  pub sent : s.sent ≡ s.delivered ++ message ∷ []
  pub acknowledged : s.acknowledged ≡ length s.delivered

-- or it has
pub record IsArrived (number : ℕ) (message : List ℕ) (s : Session) (r : Receiving) (answered : Option Packet) : Type 0 where
  pub last_is : r.last ≡ number
  pub kept : r.kept ≡ None
  pub answer : IfSome answered (λ packet. packet ≡ ack_packet number)
  pub earlier : List (List ℕ)
  pub sent : s.sent ≡ earlier ++ message ∷ []
  pub delivered : s.delivered ≡ s.sent
  pub acknowledged : s.acknowledged ≡ length earlier

pub record IsBusy (number : ℕ) (message : List ℕ) (b : ℕ) (s : Session) (w : Delivery) : Type 0 where
  pub next : w.outbound.sender.next ≡ number
  pub outstanding : w.outbound.sender.outstanding ≡ Message message
  pub small : number < 8
  pub short : length message ≤ 2028
  pub packet_sent : IfSome w.packet_sent (IsDataOf number message)
  pub counted : number ≡ (b + s.acknowledged) % 8
  pub place : IsWaiting number message s w.inbound.receiver w.answer ⊎ IsArrived number message s w.inbound.receiver w.answer

-- the newest response while the session is being opened: it does not acknowledge the opening packet before that has arrived
abbrev pub IsOpeningAnswer : ℕ → ℕ → Packet → Type 0
IsOpeningAnswer last number packet =
    (packet ≡ ack_packet last) ⊎ ((last ≡ number → ⊥) × (flags : List Bool) × (packet ≡ retry_packet ((number + 4) % 8) flags))

pub record IsOpening (number b : ℕ) (s : Session) (w : Delivery) : Type 0 where
  pub outstanding : w.outbound.sender.outstanding ≡ Opening number
  pub small : number < 8
  pub last_small : w.inbound.receiver.last < 8
  pub place : ((w.inbound.receiver.last ≡ number) × (w.inbound.receiver.kept ≡ None)) ⊎ ((w.inbound.receiver.last ≡ (number + 3) % 8) ⊎ (w.inbound.receiver.last ≡ (number + 4) % 8))
  pub packet_sent : w.packet_sent ≡ Some (opening_packet number)
  pub answer : IfSome w.answer (IsOpeningAnswer w.inbound.receiver.last number)
  pub session_is : s ≡ empty_session
  pub base_is : b ≡ (number + 1) % 8

pub data IsDelivering (b : ℕ) (s : Session) (w : Delivery) : Type 0 where
  quiet : (last : ℕ) → IsQuiet last b s w → IsDelivering b s w
  busy : (number : ℕ) (message : List ℕ) → IsBusy number message b s w → IsDelivering b s w
  opening : (number : ℕ) → IsOpening number b s w → IsDelivering b s w

-- a delivery is in a phase, with its present session
abbrev pub IsDeliveringNow : Delivery → Type 0
IsDeliveringNow w = IsDelivering (first_number w) (present_session w) w

-- and the sessions before it were orderly
pub record IsKept (w : Delivery) : Type 0 where
  pub delivering : IsDeliveringNow w
  pub divided : IsDivided IsOrderly w

-- the present session is orderly

orderly-waiting : (s : Session) (message : List ℕ) → s.sent ≡ s.delivered ++ message ∷ [] → s.acknowledged ≡ length s.delivered → IsOrderly s
orderly-waiting s message sent a = record { rest = message ∷ []; beginning = sent; acknowledged = omega arith; delivered = omega arith }

orderly-arrived : (s : Session) → s.delivered ≡ s.sent → s.acknowledged ≤ length s.delivered → length s.delivered ≤ s.acknowledged + 1 → IsOrderly s
orderly-arrived s d a m = record { rest = []; beginning = cc (append-nil s.delivered); acknowledged = a; delivered = m }

orderly-busy : (number : ℕ) (message : List ℕ) (s : Session) (r : Receiving) (answered : Option Packet) → IsWaiting number message s r answered ⊎ IsArrived number message s r answered → IsOrderly s
orderly-busy number message s r answered (inl h) = orderly-waiting s message h.sent h.acknowledged
orderly-busy number message s r answered (inr h) =
    let count : length s.delivered ≡ length h.earlier + 1 = cc (length-append h.earlier (message ∷ [])) in
    orderly-arrived s h.delivered (omega (arith, count, h.acknowledged)) (omega (arith, count, h.acknowledged))

pub orderly-delivering : (b : ℕ) (s : Session) (w : Delivery) → IsDelivering b s w → IsOrderly s
orderly-delivering b s w (quiet last q) = orderly-arrived s q.delivered (omega (arith, q.acknowledged, ap length q.delivered)) (omega (arith, q.acknowledged, ap length q.delivered))
orderly-delivering b s w (busy number message h) = orderly-busy number message s w.inbound.receiver w.answer h.place
orderly-delivering b s w (opening number h) =
    orderly-arrived s (cc)
    (omega (arith, ap (λ (t : Session). t.acknowledged) h.session_is)) (omega (arith, ap (λ (t : Session). length t.delivered) h.session_is))

-- all sessions are orderly if the present one and those that have ended are

pub orderly-divided : (w : Delivery) → IsDivided IsOrderly w → IsOrderly (present_session w) → AreOrderly (sessions_of w)
orderly-divided w d o =
    rw (sessions-split w) (each-all IsOrderly (ended_sessions w ++ present_session w ∷ []) (All-push IsOrderly (ended_sessions w) (present_session w) d.1 o))

pub orderly-kept : (w : Delivery) → IsKept w → AreOrderly (sessions_of w)
orderly-kept w k = orderly-divided w k.divided (orderly-delivering (first_number w) (present_session w) w k.delivering)
