-- A sender keeps its invariant, whatever it receives. By the rules, each test taken both ways.
use Rattle.std.proofs.{Common.{◌≡◌, ℕ, ◌+◌, ◌<◌, Bool, true, false, cond, List, length, refl, arith}, lemmas.Bool.Decides.{nat_tests}}
use Rattle.p25_packet_blocks.specs.{Parts.{PlainParts}, declared.packet.Packet.{Packet}, declared.packet.Packet.TheVariants.{Confirmed, Plain}}
use Rattle.p25_delivery.specs.{MessageBlocks.{block_count}, SentPackets.{message_packet, blocks_packet, opening_packet}, Halves.{Sending, IsNumbered, IsSending}, Asked.{is_response, is_ack, asked_of}}
use Rattle.p25_delivery.specs.SenderRules.{sending_after, tried, fallen, may_send, resent, timed_out_with, timed_out, repeated, retried, answered, response_heard, sender_heard}
use Rattle.p25_delivery.specs.{declared.asked.Asked.{Asked}, declared.asked.Asked.TheVariants.{Nothing as NothingAsked, NextMessage, WholeMessage, Blocks}, declared.sender.Outstanding.{Outstanding}}
use Rattle.p25_delivery.specs.declared.sender.Outstanding.TheVariants.{Nothing, Message, Opening}
use Rattle.p25_messages.specs.{declared.answers.Resend.{Resend}, declared.answers.Resend.TheVariants.{Sent, Down as ResendDown}, declared.answers.SenderHeard.{SenderHeard}}
use Rattle.p25_messages.specs.declared.answers.SenderHeard.TheVariants.{Opened, Retry, Repeat, Ignored, Down as HeardDown}

-- after the number of the outstanding packet
pub after-sending : (number : ℕ) → IsSending (sending_after number)
unfolding IsNumbered
after-sending number = record { next = omega arith; outstanding = tt; tries = omega arith }

-- one transmission more, or down
pub counted-sending : (s : Sending) (b : Bool) → may_send s ≡ b → IsSending s → IsSending (cond b (tried s) (fallen s))
counted-sending s true e h = let few : s.tries < 16 = grind (arith, nat_tests) in record { next = h.next; outstanding = h.outstanding; tries = omega arith }
counted-sending s false e h = record { next = h.next; outstanding = h.outstanding; tries = h.tries }

-- at a timeout

resent-sending : (s : Sending) (number : ℕ) (packet : Packet) (b : Bool)
    → may_send s ≡ b → IsSending s → IsSending (cond {A = Sending × Resend} b (tried s, Sent number (s.tries + 1) packet) (fallen s, ResendDown)).0
resent-sending s number packet true e h = counted-sending s true e h
resent-sending s number packet false e h = counted-sending s false e h

timed-sending : (out : Outstanding) (s : Sending) → IsSending s → IsSending (timed_out_with out s).0
unfolding timed_out_with resent
timed-sending Nothing s h = h
timed-sending (Message message) s h = resent-sending s s.next (message_packet s.next message) (may_send s) refl h
timed-sending (Opening number) s h = resent-sending s number (opening_packet number) (may_send s) refl h

pub timeout-sending : (s : Sending) → IsSending s → IsSending (timed_out s).0
unfolding timed_out
timeout-sending s h = elim s.down as (λ (b : Bool). IsSending (cond {A = Sending × Resend} b (s, ResendDown) (timed_out_with s.outstanding s)).0) [ true ↦ h | false ↦ timed-sending s.outstanding s h ]

-- at a response

repeated-sending : (s : Sending) (packet : Packet) (b : Bool)
    → may_send s ≡ b → IsSending s → IsSending (cond {A = Sending × SenderHeard} b (tried s, Repeat s.next (s.tries + 1) packet) (fallen s, HeardDown)).0
repeated-sending s packet true e h = counted-sending s true e h
repeated-sending s packet false e h = counted-sending s false e h

retried-sending : (s : Sending) (wanted : List Bool) (packet : Packet) (b : Bool) → may_send s ≡ b
    → IsSending s → IsSending (cond {A = Sending × SenderHeard} b (tried s, Retry s.next wanted (s.tries + 1) packet) (fallen s, HeardDown)).0
retried-sending s wanted packet true e h = counted-sending s true e h
retried-sending s wanted packet false e h = counted-sending s false e h

answered-sending : (asked : Asked) (s : Sending) (message : List ℕ) → IsSending s → IsSending (answered asked s message).0
unfolding answered repeated retried
answered-sending NothingAsked s message h = h
answered-sending NextMessage s message h = after-sending s.next
answered-sending WholeMessage s message h = repeated-sending s (message_packet s.next message) (may_send s) refl h
answered-sending (Blocks wanted) s message h = retried-sending s wanted (blocks_packet s.next message wanted) (may_send s) refl h

response-sending : (out : Outstanding) (s : Sending) (response : PlainParts) → IsSending s → IsSending (response_heard out s response).0
unfolding response_heard
response-sending Nothing s response h = h
response-sending (Message message) s response h = answered-sending (asked_of s.next (block_count (length message)) response) s message h
response-sending (Opening number) s response h =
    elim (is_ack response.head number) as (λ (b : Bool). IsSending (cond {A = Sending × SenderHeard} b (sending_after number, Opened number) (s, Ignored)).0)
    [ true ↦ after-sending number | false ↦ h ]

pub heard-sending : (s : Sending) (packet : Packet) → IsSending s → IsSending (sender_heard s packet).0
unfolding sender_heard
heard-sending s (Confirmed packet) h = h
heard-sending s (Plain packet) h =
    let heard = response_heard s.outstanding s packet in
    let ours : IsSending (cond {A = Sending × SenderHeard} (is_response packet.head) heard (s, Ignored)).0
    = elim (is_response packet.head) as (λ (b : Bool). IsSending (cond {A = Sending × SenderHeard} b heard (s, Ignored)).0) [ true ↦ response-sending s.outstanding s packet h | false ↦ h ] in
    elim s.down as (λ (b : Bool). IsSending (cond {A = Sending × SenderHeard} b (s, Ignored) (cond (is_response packet.head) heard (s, Ignored))).0) [ true ↦ h | false ↦ ours ]
