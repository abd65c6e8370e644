-- Each call keeps the invariant of a half of a station, and its transmissions are sendable. By the outstanding packet, each result of the sender or
-- the receiver in turn.
use Rattle.std.proofs.Common.{◌≡◌, ℕ, ◌+◌, ◌<◌, ◌≤◌, inl, inr, true, false, List, [], ◌∷◌, ◌++◌, length, Option, refl, ap, sym, subst, ◌∙◌, arith, length-append}
use Rattle.std.specs.Prelude.{IfSome}
use Rattle.p25_packet_blocks.specs.{declared.packet.Packet.{Packet}, Sendable.{IsSendable}}
use Rattle.p25_delivery.specs.{SentPackets.{opening_packet}, Halves.{Sending, IsNumbered, IsSending, Outgoing, Incoming, first_outgoing, first_incoming}}
use Rattle.p25_delivery.specs.{SenderRules.{sending_after, offered, timed_out, sender_heard, opening_number, reopened, is_opening}, ReceiverRules.{receiver_heard}, declared.outbound.Mark.{Mark}}
use Rattle.p25_delivery.specs.{declared.sender.Outstanding.{Outstanding}, declared.sender.Outstanding.TheVariants.{Nothing, Message, Opening}}
use Rattle.p25_delivery.specs.{SoundHalves.{IsMessage, IsMessageIn, IsCountedWith, IsOutgoing, IsIncoming}, HalfRules.{mark_of, after_offer, after_timeout, after_reopening, after_data, after_answer}}
use Rattle.p25_delivery.specs.Facts.{IsDataOf}
use Rattle.p25_messages.specs.{declared.answers.Offer.{Offer}, declared.answers.Resend.{Resend}, declared.answers.Resend.TheVariants.{Sent, Idle as ResendIdle, Down as DownAtTimeout}}
use Rattle.p25_messages.specs.declared.answers.SenderHeard.{SenderHeard}
use Rattle.p25_messages.specs.declared.answers.SenderHeard.TheVariants.{Retry as HeardRetry, Repeat as HeardRepeat, Ignored as SenderIgnored, Down as DownAtAnswer}
use Rattle.p25_messages.specs.{declared.answers.Reopen.{Reopen as ReopenAnswer}, declared.step_kind.StepKind.{StepKind}}
use Rattle.p25_delivery.proofs.SenderLaws.{IsSame, Resends, Stays, HearsAnswer, goes_on, stays, HearsOpening, opens, waits, offer-quiet, offer-message, offer-opening, timeout-message, timeout-opening, timeout-quiet, reopen-cases, reopen-up, message-answer, opening-answer, quiet-answer}
use Rattle.p25_delivery.proofs.{SendableLaws.{message_packet-sendable, blocks_packet-sendable, opening_packet-sendable}, SendingLaws.{after-sending, timeout-sending, heard-sending}}
use Rattle.p25_delivery.proofs.ReceivingLaws.{receiver-soundly}

-- the half after a call is sound, and its packet is sendable
abbrev pub KeepsOutgoing : Outgoing × (StepKind × Option Packet) → Type 0
KeepsOutgoing x = IsOutgoing x.0 × IfSome x.1.1 IsSendable

abbrev pub KeepsIncoming : Incoming × (StepKind × Option Packet) → Type 0
KeepsIncoming x = IsIncoming x.0 × IfSome x.1.1 IsSendable

-- a call of a sender or a receiver returns a state and a result
pub call-state : {S A : Type 0} {s : S} {a : A} (x : S × A) → (s, a) ≡ x → s ≡ x.0
call-state {S = S} {A = A} x e = cc

pub call-answer : {S A : Type 0} {s : S} {a : A} (x : S × A) → (s, a) ≡ x → a ≡ x.1
call-answer {S = S} {A = A} x e = cc

-- The invariant of a sending half, by the outstanding packet.

counts-fit : (o : Outgoing) (out : Outstanding) → IsCountedWith out o → o.acknowledged + length o.marks ≤ length o.sent
unfolding IsCountedWith
counts-fit o Nothing c = c.2
counts-fit o (Message message) c = omega arith
counts-fit o (Opening number) c = c

pub outgoing-counts : (o : Outgoing) → IsOutgoing o → o.acknowledged + length o.marks ≤ length o.sent
outgoing-counts o sound = counts-fit o o.sender.outstanding sound.counted

pub counted-at : (o : Outgoing) (out : Outstanding) → o.sender.outstanding ≡ out → IsOutgoing o → IsCountedWith out o
counted-at o out e sound = rw (← e) sound.counted

pub quiet-is : (o : Outgoing) → IsCountedWith Nothing o → (o.sender.down ≡ false) × (o.sender.tries ≡ 0) × (o.acknowledged + length o.marks ≤ length o.sent)
unfolding IsCountedWith
quiet-is o c = c

message-counted : (o : Outgoing) (message : List ℕ) → IsCountedWith (Message message) o → o.acknowledged + length o.marks + 1 ≤ length o.sent
unfolding IsCountedWith
message-counted o message c = c

opening-counted : (o : Outgoing) (number : ℕ) → IsCountedWith (Opening number) o → o.acknowledged + length o.marks ≤ length o.sent
unfolding IsCountedWith
opening-counted o number c = c

pub message-in : (out : Outstanding) (message : List ℕ) → out ≡ Message message → IsMessageIn out → IsMessage message
unfolding IsMessageIn
message-in out message e is = subst IsMessageIn e is

number-in : (out : Outstanding) (number : ℕ) → out ≡ Opening number → IsNumbered out → number < 8
unfolding IsNumbered
number-in out number e is = subst IsNumbered e is

-- the data of a message is sendable
data-sendable : (number : ℕ) (message : List ℕ) (packet : Packet) → number < 8 → IsMessage message → IsDataOf number message packet → IsSendable packet
unfolding IsDataOf
data-sendable number message packet n is (inl e) = rw e (message_packet-sendable number message n is)
data-sendable number message packet n is (inr (wanted, e)) = rw e (blocks_packet-sendable number message wanted n is)

-- A half with another sender, of which the same is outstanding.

-- a message or the opening packet
unfoldable IsHeldUp : Outstanding → Type 0
IsHeldUp Nothing = ⊥
IsHeldUp other = Unit {0}

counted-again : (o : Outgoing) (s : Sending) (out : Outstanding) → IsHeldUp out → IsCountedWith out o → IsCountedWith out (record o { sender = s })
unfolding IsHeldUp IsCountedWith
counted-again o s Nothing up c = absurd up
counted-again o s out up c = c

same-outgoing : (o : Outgoing) (s : Sending) (out : Outstanding) → IsHeldUp out → o.sender.outstanding ≡ out → IsSame o.sender s → IsSending s → IsOutgoing o → IsOutgoing (record o { sender = s })
same-outgoing o s out up e same sending sound =
    let now : s.outstanding ≡ out = same.outstanding ∙ e in
    record {
      sender = sending;
      message = rw same.outstanding sound.message;
      counted = rw (← now) at (counted-again o s out up (counted-at o out e sound));
    }

up-message : (message : List ℕ) → IsHeldUp (Message message)
unfolding IsHeldUp
up-message message = tt

up-opening : (number : ℕ) → IsHeldUp (Opening number)
unfolding IsHeldUp
up-opening number = tt

-- An offer.

taken-keeps : (o : Outgoing) (message : List ℕ) → IsCountedWith Nothing o → IsMessage message → IsOutgoing o →
    IsOutgoing (record o { sender = record { next = o.sender.next; outstanding = Message message; tries = 1; down = false }; sent = o.sent ++ message ∷ [] })
unfolding IsCountedWith IsNumbered IsMessageIn
taken-keeps o message c is sound = record {
  sender = record { next = sound.sender.next; outstanding = tt; tries = omega arith };
  message = is;
  counted = omega (arith, c.2, length-append o.sent (message ∷ []));
}

offer-by : (o : Outgoing) (message : List ℕ) (out : Outstanding) → o.sender.outstanding ≡ out → IsMessage message → IsOutgoing o → KeepsOutgoing (after_offer o message (offered o.sender message))
unfolding after_offer
offer-by o message Nothing e is sound =
    let c = counted-at o Nothing e sound in
    rw (offer-quiet o.sender message (quiet-is o c).0 e) (taken-keeps o message c is sound, message_packet-sendable o.sender.next message sound.sender.next is)
offer-by o message (Message other) e is sound =
    elim (offer-message o.sender message other e) [
      | inl f ↦ rw f (sound, tt)
      | inr f ↦ rw f (sound, tt)
    ]
offer-by o message (Opening number) e is sound =
    elim (offer-opening o.sender message number e) [
      | inl f ↦ rw f (sound, tt)
      | inr f ↦ rw f (sound, tt)
    ]

pub offer-keeps : (o : Outgoing) (message : List ℕ) → IsMessage message → IsOutgoing o → KeepsOutgoing (after_offer o message (offered o.sender message))
offer-keeps o message is sound = offer-by o message o.sender.outstanding refl is sound

-- A timeout.

resends-keeps : (P : Packet → Type 0) (o : Outgoing) (out : Outstanding) (x : Sending × Resend)
    → IsHeldUp out → o.sender.outstanding ≡ out → ((packet : Packet) → P packet → IsSendable packet) → Resends P o.sender x →
    IsSending x.0 → IsOutgoing o → KeepsOutgoing (after_timeout o x)
unfolding after_timeout
resends-keeps P o out (s, Sent number tries packet) up e can again sending sound = (same-outgoing o s out up e again.0 sending sound, can packet again.1)
resends-keeps P o out (s, ResendIdle) up e can again sending sound = (same-outgoing o s out up e again.0 sending sound, tt)
resends-keeps P o out (s, DownAtTimeout) up e can again sending sound = (same-outgoing o s out up e again.0 sending sound, tt)

timeout-by : (o : Outgoing) (out : Outstanding) → o.sender.outstanding ≡ out → IsOutgoing o → KeepsOutgoing (after_timeout o (timed_out o.sender))
unfolding after_timeout
timeout-by o Nothing e sound =
    let c = counted-at o Nothing e sound in
    rw (timeout-quiet o.sender (quiet-is o c).0 e) (sound, tt)
timeout-by o (Message message) e sound =
    let is = message-in o.sender.outstanding message e sound.message in
    resends-keeps (IsDataOf o.sender.next message) o (Message message) (timed_out o.sender) (up-message message) e
    (λ (packet : Packet) (of : IsDataOf o.sender.next message packet). data-sendable o.sender.next message packet sound.sender.next is of)
    (timeout-message o.sender message e) (timeout-sending o.sender sound.sender) sound
timeout-by o (Opening number) e sound =
    let n = number-in o.sender.outstanding number e sound.sender.outstanding in
    resends-keeps (λ packet. packet ≡ opening_packet number) o (Opening number) (timed_out o.sender) (up-opening number) e
    (λ (packet : Packet) (is : packet ≡ opening_packet number). rw is (opening_packet-sendable number n))
    (timeout-opening o.sender number e) (timeout-sending o.sender sound.sender) sound

pub timeout-keeps : (o : Outgoing) → IsOutgoing o → KeepsOutgoing (after_timeout o (timed_out o.sender))
timeout-keeps o sound = timeout-by o o.sender.outstanding refl sound

-- A reopening.

opened-again : (o : Outgoing) (number : ℕ) (marks : List Mark) → number < 8 → o.acknowledged + length marks ≤ length o.sent → IsOutgoing o →
    IsOutgoing (record o { sender = record { next = o.sender.next; outstanding = Opening number; tries = 1; down = false }; marks = marks })
unfolding IsCountedWith IsNumbered IsMessageIn
opened-again o number marks n c sound = record {
  sender = record { next = sound.sender.next; outstanding = n; tries = omega arith };
  message = tt;
  counted = c;
}

-- the number of the opening packet

four-more : (message : List ℕ) (next : ℕ) → opening_number (Message message) next < 8
unfolding opening_number
four-more message next = omega arith

same-number : (number next : ℕ) → opening_number (Opening number) next ≡ number
unfolding opening_number
same-number number next = refl

reopen-by : (o : Outgoing) (delivered : ℕ) (out : Outstanding) → o.sender.outstanding ≡ out → IsOutgoing o → KeepsOutgoing (after_reopening o delivered (is_opening out) (reopened o.sender))
unfolding after_reopening
reopen-by o delivered Nothing e sound =
    let c = counted-at o Nothing e sound in
    rw (reopen-up o.sender (quiet-is o c).0) (sound, tt)
reopen-by o delivered (Message message) e sound =
    let c = message-counted o message (counted-at o (Message message) e sound) in
    let number = opening_number (Message message) o.sender.next in
    let n = four-more message o.sender.next in
    let mark = mark_of o delivered in
    elim (reopen-cases o.sender number (cc)) [
      | inl f ↦ rw f (sound, tt)
      | inr f ↦
          rw f (opened-again o number (o.marks ++ mark ∷ []) n (omega (arith, c, length-append o.marks (mark ∷ []))) sound, opening_packet-sendable number n)
    ]
reopen-by o delivered (Opening number) e sound =
    let c = opening-counted o number (counted-at o (Opening number) e sound) in
    let n = number-in o.sender.outstanding number e sound.sender.outstanding in
    elim (reopen-cases o.sender number (cc (same-number number o.sender.next))) [
      | inl f ↦ rw f (sound, tt)
      | inr f ↦ rw f (opened-again o number o.marks n c sound, opening_packet-sendable number n)
    ]

pub reopen-keeps : (o : Outgoing) (delivered : ℕ) → IsOutgoing o → KeepsOutgoing (after_reopening o delivered (is_opening o.sender.outstanding) (reopened o.sender))
reopen-keeps o delivered sound = reopen-by o delivered o.sender.outstanding refl sound

-- A packet that the receiver receives.

pub data-keeps : (i : Incoming) (packet : Packet) → IsIncoming i → KeepsIncoming (after_data i (receiver_heard i.receiver packet))
unfolding after_data
data-keeps i packet sound = receiver-soundly i.receiver packet sound

-- A response that the sender receives.

acknowledged-keeps : (o : Outgoing) → o.acknowledged + length o.marks + 1 ≤ length o.sent → IsOutgoing (record o { sender = sending_after o.sender.next; acknowledged = o.acknowledged + 1 })
unfolding IsCountedWith IsMessageIn
acknowledged-keeps o c = record { sender = after-sending o.sender.next; message = tt; counted = (refl, refl, omega (arith, c)) }

open-keeps : (o : Outgoing) (number : ℕ) → o.acknowledged + length o.marks ≤ length o.sent → IsOutgoing (record o { sender = sending_after number })
unfolding IsCountedWith IsMessageIn
open-keeps o number c = record { sender = after-sending number; message = tt; counted = (refl, refl, c) }

stays-keeps : (o : Outgoing) (message : List ℕ) (x : Sending × SenderHeard)
    → o.sender.outstanding ≡ Message message → Stays o.sender message x → IsSending x.0 → IsOutgoing o → KeepsOutgoing (after_answer o x)
unfolding after_answer
stays-keeps o message (s, HeardRetry number wanted tries packet) e stay sending sound = (
  same-outgoing o s (Message message) (up-message message) e stay.0 sending sound,
  data-sendable o.sender.next message packet sound.sender.next (message-in o.sender.outstanding message e sound.message) stay.1,
)
stays-keeps o message (s, HeardRepeat number tries packet) e stay sending sound = (
  same-outgoing o s (Message message) (up-message message) e stay.0 sending sound,
  data-sendable o.sender.next message packet sound.sender.next (message-in o.sender.outstanding message e sound.message) stay.1,
)
stays-keeps o message (s, SenderIgnored) e stay sending sound = (same-outgoing o s (Message message) (up-message message) e stay.0 sending sound, tt)
stays-keeps o message (s, DownAtAnswer) e stay sending sound = (same-outgoing o s (Message message) (up-message message) e stay.0 sending sound, tt)
stays-keeps o message x e stay sending sound = absurd stay.1

message-keeps : (o : Outgoing) (message : List ℕ) (packet : Packet) (x : Sending × SenderHeard) → o.sender.outstanding ≡ Message message → HearsAnswer o.sender message packet x → IsSending x.0 →
    IsOutgoing o → KeepsOutgoing (after_answer o x)
unfolding after_answer
message-keeps o message packet x e (goes_on a is) sending sound =
    rw is (acknowledged-keeps o (message-counted o message (counted-at o (Message message) e sound)), tt)
message-keeps o message packet x e (stays stay) sending sound = stays-keeps o message x e stay sending sound

waiting-keeps : (o : Outgoing) (number : ℕ) (packet : Packet) (x : Sending × SenderHeard)
    → o.sender.outstanding ≡ Opening number → HearsOpening o.sender number packet x → IsOutgoing o → KeepsOutgoing (after_answer o x)
unfolding after_answer
waiting-keeps o number packet x e (opens a is) sound =
    rw is (open-keeps o number (opening-counted o number (counted-at o (Opening number) e sound)), tt)
waiting-keeps o number packet x e (waits is) sound = rw is (sound, tt)

answer-by : (o : Outgoing) (packet : Packet) (out : Outstanding) → o.sender.outstanding ≡ out → IsOutgoing o → KeepsOutgoing (after_answer o (sender_heard o.sender packet))
unfolding after_answer
answer-by o packet Nothing e sound = rw (quiet-answer o.sender packet e) (sound, tt)
answer-by o packet (Message message) e sound = message-keeps o message packet
    (sender_heard o.sender packet) e (message-answer o.sender message packet e) (heard-sending o.sender packet sound.sender) sound
answer-by o packet (Opening number) e sound = waiting-keeps o number packet (sender_heard o.sender packet) e (opening-answer o.sender number packet e) sound

pub answer-keeps : (o : Outgoing) (packet : Packet) → IsOutgoing o → KeepsOutgoing (after_answer o (sender_heard o.sender packet))
answer-keeps o packet sound = answer-by o packet o.sender.outstanding refl sound

-- The first halves.

pub first-outgoing : IsOutgoing first_outgoing
unfolding IsCountedWith IsNumbered IsMessageIn
first-outgoing = record {
  sender = record { next = omega arith; outstanding = tt; tries = omega arith };
  message = tt;
  counted = (refl, refl, omega arith);
}

pub first-incoming : IsIncoming first_incoming
first-incoming = record { last = omega arith; kept = tt }
