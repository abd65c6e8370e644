-- The results of a sender, by its outstanding packet. By the rules, each test taken both ways.
use Rattle.std.proofs.Common.{◌≡◌, ℕ, ◌+◌, ◌<◌, ◌⊎◌, inl, inr, Bool, true, false, cond, ◌&&◌, List, length, take, Option, Some, None, refl, ap, sym, ◌∙◌, subst, arith}
use Rattle.std.proofs.lemmas.Bool.{cond-true, cond-false, and_parts, eqb-true}
use Rattle.std.specs.{Prelude.{nat_le, not}, List.{list_any}}
use Rattle.p25_packet_blocks.specs.{Heads.{response_class}, Parts.{PlainParts}, FlagOctets.{flags_of_octets}, declared.packet.Packet.{Packet}, declared.packet.Packet.TheVariants.{Confirmed, Plain}}
use Rattle.p25_delivery.specs.{MessageBlocks.{block_count}, SentPackets.{message_packet, blocks_packet, opening_packet, short_response, ack_packet, retry_packet}, Halves.{Sending}}
use Rattle.p25_delivery.specs.Asked.{is_response, is_ack, is_retry, is_crc_nack, wanted_flags, asked_by_flags, asked_of}
use Rattle.p25_delivery.specs.SenderRules.{sending_after, tried, fallen, may_send, offered_beside, offered, resent, timed_out_with, timed_out, repeated, retried, answered, response_heard, sender_heard, opening_number, reopened}
use Rattle.p25_delivery.specs.{declared.asked.Asked.{Asked}, declared.asked.Asked.TheVariants.{Nothing as NothingAsked, NextMessage, WholeMessage, Blocks}, declared.sender.Outstanding.{Outstanding}}
use Rattle.p25_delivery.specs.{declared.sender.Outstanding.TheVariants.{Nothing, Message, Opening}, Facts.{IsDataOf}}
use Rattle.p25_messages.specs.{declared.answers.Offer.TheVariants.{Taken, Busy, Down as OfferDown}, declared.answers.Resend.{Resend}}
use Rattle.p25_messages.specs.{declared.answers.Resend.TheVariants.{Sent, Idle, Down as ResendDown}, declared.answers.SenderHeard.{SenderHeard}}
use Rattle.p25_messages.specs.{declared.answers.SenderHeard.TheVariants.{Acknowledged, Opened, Retry, Repeat, Ignored, Down as HeardDown}, declared.answers.Reopen.{Reopen}}
use Rattle.p25_messages.specs.declared.answers.Reopen.TheVariants.{Sent as ReopenSent, Up}
use Rattle.p25_delivery.proofs.HeadLaws.{response_head-status, response_head-class}

-- two senders have one number, and one message or packet outstanding
pub record IsSame (s t : Sending) : Type 0 where
  pub next : t.next ≡ s.next
  pub outstanding : t.outstanding ≡ s.outstanding

-- an offer

pub offer-quiet : (s : Sending) (message : List ℕ) → s.down ≡ false → s.outstanding ≡ Nothing →
    offered s message ≡ (record { next = s.next; outstanding = Message message; tries = 1; down = false }, Taken s.next (block_count (length message)) (message_packet s.next message))
unfolding offered offered_beside
offer-quiet s message d o = cc (cond-false s.down _ _ d)

pub offer-message : (s : Sending) (message other : List ℕ) → s.outstanding ≡ Message other → (offered s message ≡ (s, Busy)) ⊎ (offered s message ≡ (s, OfferDown))
unfolding offered offered_beside
offer-message s message other o =
    let busy : offered_beside s.outstanding s message ≡ (s, Busy) = cc in
    elim s.down as (λ (b : Bool). (cond b (s, OfferDown) (offered_beside s.outstanding s message) ≡ (s, Busy))
    ⊎ (cond b (s, OfferDown) (offered_beside s.outstanding s message) ≡ (s, OfferDown))) [ true ↦ inr refl | false ↦ inl busy ]

pub offer-opening : (s : Sending) (message : List ℕ) (number : ℕ) → s.outstanding ≡ Opening number → (offered s message ≡ (s, Busy)) ⊎ (offered s message ≡ (s, OfferDown))
unfolding offered offered_beside
offer-opening s message number o =
    let busy : offered_beside s.outstanding s message ≡ (s, Busy) = cc in
    elim s.down as (λ (b : Bool). (cond b (s, OfferDown) (offered_beside s.outstanding s message) ≡ (s, Busy))
    ⊎ (cond b (s, OfferDown) (offered_beside s.outstanding s message) ≡ (s, OfferDown))) [ true ↦ inr refl | false ↦ inl busy ]

-- a timeout

-- a packet that is transmitted again has some property
abbrev pub ResendsOf : (Packet → Type 0) → Resend → Type 0
ResendsOf P (Sent number tries packet) = P packet
ResendsOf P other = Unit {0}

-- the outstanding packet stays, and is transmitted again or not
abbrev pub Resends : (Packet → Type 0) → Sending → Sending × Resend → Type 0
Resends P s x = IsSame s x.0 × ResendsOf P x.1

pub resent-of : (P : Packet → Type 0) (s : Sending) (number : ℕ) (packet : Packet) → P packet → Resends P s (resent s number packet)
unfolding resent
resent-of P s number packet p =
    elim (may_send s) as (λ (b : Bool). Resends P s (cond b (tried s, Sent number (s.tries + 1) packet) (fallen s, ResendDown))) [
      | true ↦ (record { next = refl; outstanding = refl }, p)
      | false ↦ (record { next = refl; outstanding = refl }, tt)
    ]

pub timeout-of : (P : Packet → Type 0) (s : Sending) (out : Outstanding) → s.outstanding ≡ out → Resends P s (timed_out_with out s) → Resends P s (timed_out s)
unfolding timed_out
timeout-of P s out o h =
    let here = rw (← o) at h in
    elim s.down as (λ (b : Bool). Resends P s (cond b (s, ResendDown) (timed_out_with s.outstanding s))) [
      | true ↦ (record { next = refl; outstanding = refl }, tt)
      | false ↦ here
    ]

pub timeout-message : (s : Sending) (message : List ℕ) → s.outstanding ≡ Message message → Resends (IsDataOf s.next message) s (timed_out s)
unfolding timed_out_with IsDataOf
timeout-message s message o = timeout-of (IsDataOf s.next message) s (Message message) o (resent-of (IsDataOf s.next message) s s.next (message_packet s.next message) (inl refl))

pub timeout-opening : (s : Sending) (number : ℕ) → s.outstanding ≡ Opening number → Resends (λ packet. packet ≡ opening_packet number) s (timed_out s)
unfolding timed_out_with
timeout-opening s number o = timeout-of (λ packet. packet ≡ opening_packet number) s (Opening number) o (resent-of (λ packet. packet ≡ opening_packet number) s number (opening_packet number) refl)

pub timeout-quiet : (s : Sending) → s.down ≡ false → s.outstanding ≡ Nothing → timed_out s ≡ (s, Idle)
unfolding timed_out timed_out_with
timeout-quiet s d o = cc (cond-false s.down _ _ d)

-- a reopening

pub reopen-cases : (s : Sending) (number : ℕ) → opening_number s.outstanding s.next ≡ number → (reopened s ≡ (s, Up)) ⊎
    (reopened s ≡ (record { next = s.next; outstanding = Opening number; tries = 1; down = false }, ReopenSent number (opening_packet number)))
unfolding reopened
reopen-cases s number e =
    let sent : ℕ → Sending × Reopen = λ (y : ℕ). (record { next = s.next; outstanding = Opening y; tries = 1; down = false }, ReopenSent y (opening_packet y)) in
    elim s.down as (λ (b : Bool). (cond b (sent (opening_number s.outstanding s.next)) (s, Up) ≡ (s, Up)) ⊎ (cond b (sent (opening_number s.outstanding s.next)) (s, Up) ≡ sent number)) [
      | true ↦ inr (ap sent e)
      | false ↦ inl refl
    ]

pub reopen-up : (s : Sending) → s.down ≡ false → reopened s ≡ (s, Up)
unfolding reopened
reopen-up s d = cond-false s.down _ _ d

-- a response

-- a response acknowledges a number
unfoldable pub acks : Packet → ℕ → Bool
acks (Confirmed packet) number = false
acks (Plain packet) number = is_ack packet.head number

-- a retransmission carries the message
abbrev pub RetriesOf : ℕ → List ℕ → SenderHeard → Type 0
RetriesOf number message (Retry other wanted tries packet) = IsDataOf number message packet
RetriesOf number message (Repeat other tries packet) = IsDataOf number message packet
RetriesOf number message Ignored = Unit {0}
RetriesOf number message HeardDown = Unit {0}
RetriesOf number message other = ⊥

-- the message stays outstanding
abbrev pub Stays : Sending → List ℕ → Sending × SenderHeard → Type 0
Stays s message x = IsSame s x.0 × RetriesOf s.next message x.1

stays-ignored : (s : Sending) (message : List ℕ) → Stays s message (s, Ignored)
stays-ignored s message = (record { next = refl; outstanding = refl }, tt)

stays-nothing : (s : Sending) (message : List ℕ) → Stays s message (answered NothingAsked s message)
unfolding answered
stays-nothing s message = stays-ignored s message

stays-whole : (s : Sending) (message : List ℕ) → Stays s message (answered WholeMessage s message)
unfolding answered repeated IsDataOf
stays-whole s message =
    elim (may_send s) as (λ (b : Bool). Stays s message (cond b (tried s, Repeat s.next (s.tries + 1) (message_packet s.next message)) (fallen s, HeardDown))) [
      | true ↦ (record { next = refl; outstanding = refl }, inl refl)
      | false ↦ (record { next = refl; outstanding = refl }, tt)
    ]

stays-blocks : (s : Sending) (message : List ℕ) (wanted : List Bool) → Stays s message (answered (Blocks wanted) s message)
unfolding answered retried IsDataOf
stays-blocks s message wanted =
    elim (may_send s) as (λ (b : Bool). Stays s message (cond b (tried s, Retry s.next wanted (s.tries + 1) (blocks_packet s.next message wanted)) (fallen s, HeardDown))) [
      | true ↦ (record { next = refl; outstanding = refl }, inr (wanted, refl))
      | false ↦ (record { next = refl; outstanding = refl }, tt)
    ]

stays-flags : (s : Sending) (message : List ℕ) (blocks : ℕ) (flags : Option (List Bool)) → Stays s message (answered (asked_by_flags blocks flags) s message)
unfolding asked_by_flags
stays-flags s message blocks None = stays-nothing s message
stays-flags s message blocks (Some flags) =
    elim (nat_le blocks (length flags) && list_any not (take blocks flags)) as (λ (b : Bool). Stays s message (answered (cond b (Blocks (wanted_flags blocks flags)) NothingAsked) s message)) [
      | true ↦ stays-blocks s message (wanted_flags blocks flags)
      | false ↦ stays-nothing s message
    ]

-- the result of a response for an outstanding message
pub data HearsAnswer (s : Sending) (message : List ℕ) (packet : Packet) (x : Sending × SenderHeard) : Type 0 where
  goes_on : acks packet s.next ≡ true → x ≡ (sending_after s.next, Acknowledged s.next) → HearsAnswer s message packet x
  stays : Stays s message x → HearsAnswer s message packet x

goes : (s : Sending) (message : List ℕ) → answered NextMessage s message ≡ (sending_after s.next, Acknowledged s.next)
unfolding answered
goes s message = refl

hears-asked : (s : Sending) (message : List ℕ) (response : PlainParts) (b : Bool)
    → is_ack response.head s.next ≡ b → HearsAnswer s message (Plain response) (answered (asked_of s.next (block_count (length message)) response) s message)
unfolding acks asked_of
hears-asked s message response true e =
    goes_on e (cc (cond-true (is_ack response.head s.next) NextMessage _ e, goes s message))
hears-asked s message response false e =
    let blocks = block_count (length message) in
    let flags = asked_by_flags blocks (flags_of_octets response.octets) in
    let last : Stays s message (answered (cond (is_crc_nack response.head s.next) WholeMessage NothingAsked) s message)
    = elim (is_crc_nack response.head s.next) as (λ (b : Bool). Stays s message (answered (cond b WholeMessage NothingAsked) s message))
    [ true ↦ stays-whole s message | false ↦ stays-nothing s message ] in
    let rest : Stays s message (answered (cond (is_retry response.head s.next) flags (cond (is_crc_nack response.head s.next) WholeMessage NothingAsked)) s message)
    = elim (is_retry response.head s.next) as (λ (b : Bool). Stays s message
    (answered (cond b flags (cond (is_crc_nack response.head s.next) WholeMessage NothingAsked)) s message))
    [ true ↦ stays-flags s message blocks (flags_of_octets response.octets) | false ↦ last ] in
    stays (rw (cond-false (is_ack response.head s.next) NextMessage _ e) rest)

pub message-answer : (s : Sending) (message : List ℕ) (packet : Packet) → s.outstanding ≡ Message message → HearsAnswer s message packet (sender_heard s packet)
unfolding sender_heard response_heard
message-answer s message (Confirmed packet) o = stays (stays-ignored s message)
message-answer s message (Plain packet) o =
    let heard : HearsAnswer s message (Plain packet) (response_heard s.outstanding s packet)
    = subst (λ (out : Outstanding). HearsAnswer s message (Plain packet) (response_heard out s packet)) (sym o) (hears-asked s message packet (is_ack packet.head s.next) refl) in
    let ours : HearsAnswer s message (Plain packet) (cond (is_response packet.head) (response_heard s.outstanding s packet) (s, Ignored))
    = elim (is_response packet.head) as (λ (b : Bool). HearsAnswer s message (Plain packet) (cond b (response_heard s.outstanding s packet) (s, Ignored)))
    [ true ↦ heard | false ↦ stays (stays-ignored s message) ] in
    elim s.down as (λ (b : Bool). HearsAnswer s message (Plain packet) (cond b (s, Ignored)
    (cond (is_response packet.head) (response_heard s.outstanding s packet) (s, Ignored)))) [ true ↦ stays (stays-ignored s message) | false ↦ ours ]

-- while the opening packet is outstanding
pub data HearsOpening (s : Sending) (number : ℕ) (packet : Packet) (x : Sending × SenderHeard) : Type 0 where
  opens : acks packet number ≡ true → x ≡ (sending_after number, Opened number) → HearsOpening s number packet x
  waits : x ≡ (s, Ignored) → HearsOpening s number packet x

opening-response : (s : Sending) (number : ℕ) (response : PlainParts) (b : Bool) → is_ack response.head number ≡ b → HearsOpening s number (Plain response) (response_heard (Opening number) s response)
unfolding acks response_heard
opening-response s number response true e = opens e (cond-true (is_ack response.head number) _ _ e)
opening-response s number response false e = waits (cond-false (is_ack response.head number) _ _ e)

pub opening-answer : (s : Sending) (number : ℕ) (packet : Packet) → s.outstanding ≡ Opening number → HearsOpening s number packet (sender_heard s packet)
unfolding sender_heard
opening-answer s number (Confirmed packet) o = waits refl
opening-answer s number (Plain packet) o =
    let heard : HearsOpening s number (Plain packet) (response_heard s.outstanding s packet)
    = rw (← o) at (opening-response s number packet (is_ack packet.head number) refl) in
    let ours : HearsOpening s number (Plain packet) (cond (is_response packet.head) (response_heard s.outstanding s packet) (s, Ignored))
    = elim (is_response packet.head) as (λ (b : Bool). HearsOpening s number (Plain packet) (cond b (response_heard s.outstanding s packet) (s, Ignored))) [ true ↦ heard | false ↦ waits refl ] in
    elim s.down as (λ (b : Bool). HearsOpening s number (Plain packet)
    (cond b (s, Ignored) (cond (is_response packet.head) (response_heard s.outstanding s packet) (s, Ignored)))) [ true ↦ waits refl | false ↦ ours ]

-- while nothing is outstanding
pub quiet-answer : (s : Sending) (packet : Packet) → s.outstanding ≡ Nothing → sender_heard s packet ≡ (s, Ignored)
unfolding sender_heard response_heard
quiet-answer s (Confirmed packet) o = refl
quiet-answer s (Plain packet) o =
    let heard : response_heard s.outstanding s packet ≡ (s, Ignored) = cc in
    let ours : cond (is_response packet.head) (response_heard s.outstanding s packet) (s, Ignored) ≡ (s, Ignored)
    = elim (is_response packet.head) as (λ (b : Bool). cond b (response_heard s.outstanding s packet) (s, Ignored) ≡ (s, Ignored)) [ true ↦ heard | false ↦ refl ] in
    elim s.down as (λ (b : Bool). cond b (s, Ignored) (cond (is_response packet.head) (response_heard s.outstanding s packet) (s, Ignored)) ≡ (s, Ignored)) [ true ↦ refl | false ↦ ours ]

-- the numbers that the responses of a receiver acknowledge

pub acks-ack : (status number : ℕ) → status < 8 → acks (ack_packet status) number ≡ true → status ≡ number
unfolding acks short_response is_ack
acks-ack status number h e = sym (response_head-status 0 1 status 0 h) ∙ eqb-true _ number (and_parts _ _ e).1

pub acks-retry : (status number : ℕ) (flags : List Bool) → status < 8 → acks (retry_packet status flags) number ≡ true → ⊥
unfolding acks retry_packet is_ack
acks-retry status number flags h e =
    let class : response_class _ ≡ 0 = eqb-true _ 0 (and_parts _ _ (and_parts _ _ e).0).0 in
    absurd (omega (arith, class, response_head-class 2 0 status (cond (nat_le (length flags) 64) 1 2) (omega arith) h))
