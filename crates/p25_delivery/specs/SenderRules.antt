-- The effect of each call on a sender: its state afterwards, and its result.
use Rattle.std.specs.Prelude.{ℕ, ◌+◌, ◌%◌, Bool, true, false, nat_lt, List, length, if◌then◌else◌}
use Rattle.p25_delivery.specs.{MessageBlocks.{block_count}, SentPackets.{message_packet, blocks_packet, opening_packet, PlainParts, Packet, Confirmed, Plain}}
use Rattle.p25_delivery.specs.Halves.{Sending, Outstanding, Nothing, Message, Opening}
use Rattle.p25_delivery.specs.Asked.{is_response, is_ack, asked_of, Asked, Nothing as NothingAsked, NextMessage, WholeMessage, Blocks}
pub use Rattle.p25_messages.specs.declared.answers.Offer.{Offer, TheVariants.{Taken, Busy, Down as OfferDown}}
use Rattle.p25_messages.specs.declared.answers.Resend.{Resend, TheVariants.{Sent, Idle, Down as ResendDown}}
pub use Rattle.p25_messages.specs.declared.answers.SenderHeard.{SenderHeard, TheVariants.{Acknowledged, Opened, Retry, Repeat, Ignored, Down as HeardDown}}
pub use Rattle.p25_messages.specs.declared.answers.Reopen.{Reopen, TheVariants.{Sent as ReopenSent, Up}}

-- a sender with nothing outstanding, after the number of the former packet
abbrev pub sending_after : ℕ → Sending
sending_after number = record { next = (number + 1) % 8; outstanding = Nothing; tries = 0; down = false }

-- one transmission more
abbrev pub tried : Sending → Sending
tried s = record { next = s.next; outstanding = s.outstanding; tries = s.tries + 1; down = s.down }

-- down, and unchanged otherwise
abbrev pub fallen : Sending → Sending
fallen s = record { next = s.next; outstanding = s.outstanding; tries = s.tries; down = true }

-- fewer than 16 transmissions of the outstanding packet were made
abbrev pub may_send : Sending → Bool
may_send s = nat_lt s.tries 16

-- a message is offered: it is taken if nothing is outstanding
unfoldable pub offered_beside : Outstanding → Sending → List ℕ → Sending × Offer
offered_beside Nothing s message =
    let blocks = block_count (length message) in
    (record { next = s.next; outstanding = Message message; tries = 1; down = false }, Taken s.next blocks (message_packet s.next message))
offered_beside other s message = (s, Busy)

unfoldable pub offered : Sending → List ℕ → Sending × Offer
offered s message = if s.down then (s, OfferDown) else offered_beside s.outstanding s message

-- a packet is transmitted again, unless 16 transmissions were made
unfoldable pub resent : Sending → ℕ → Packet → Sending × Resend
resent s number packet = if may_send s then (tried s, Sent number (s.tries + 1) packet) else (fallen s, ResendDown)

-- a timeout: the outstanding packet is transmitted again whole
unfoldable pub timed_out_with : Outstanding → Sending → Sending × Resend
timed_out_with Nothing s = (s, Idle)
timed_out_with (Message message) s = resent s s.next (message_packet s.next message)
timed_out_with (Opening number) s = resent s number (opening_packet number)

unfoldable pub timed_out : Sending → Sending × Resend
timed_out s = if s.down then (s, ResendDown) else timed_out_with s.outstanding s

-- the whole message is transmitted again, or some of its blocks, unless 16 transmissions were made
unfoldable pub repeated : Sending → Packet → Sending × SenderHeard
repeated s packet = if may_send s then (tried s, Repeat s.next (s.tries + 1) packet) else (fallen s, HeardDown)

unfoldable pub retried : Sending → List Bool → Packet → Sending × SenderHeard
retried s wanted packet = if may_send s then (tried s, Retry s.next wanted (s.tries + 1) packet) else (fallen s, HeardDown)

-- a response requires something while a message is outstanding
unfoldable pub answered : Asked → Sending → List ℕ → Sending × SenderHeard
answered NothingAsked s message = (s, Ignored)
answered NextMessage s message = (sending_after s.next, Acknowledged s.next)
answered WholeMessage s message = repeated s (message_packet s.next message)
answered (Blocks wanted) s message = retried s wanted (blocks_packet s.next message wanted)

-- a response is received: while the opening packet is outstanding only its ACK
unfoldable pub response_heard : Outstanding → Sending → PlainParts → Sending × SenderHeard
response_heard Nothing s response = (s, Ignored)
response_heard (Message message) s response = answered (asked_of s.next (block_count (length message)) response) s message
response_heard (Opening number) s response = if is_ack response.head number then (sending_after number, Opened number) else (s, Ignored)

-- a packet is received: a sender that is down ignores all
unfoldable pub sender_heard : Sending → Packet → Sending × SenderHeard
sender_heard s (Confirmed packet) = (s, Ignored)
sender_heard s (Plain packet) =
    if s.down then (s, Ignored) else (if is_response packet.head then response_heard s.outstanding s packet else (s, Ignored))

-- the number of the opening packet: the former one, or four more than that of the message that is given up. No sender that is down has nothing
-- outstanding
unfoldable pub opening_number : Outstanding → ℕ → ℕ
opening_number (Opening number) next = number
opening_number other next = (next + 4) % 8

-- the session is opened again
unfoldable pub reopened : Sending → Sending × Reopen
reopened s =
    let number = opening_number s.outstanding s.next in
    if s.down then (record { next = s.next; outstanding = Opening number; tries = 1; down = false }, ReopenSent number (opening_packet number)) else (s, Up)

-- the opening packet is outstanding
abbrev pub is_opening : Outstanding → Bool
is_opening (Opening number) = true
is_opening other = false
