-- The effect of each call on a half of a station, by the result of its sender or its receiver: the half after the call, the type of step, and the
-- packet that becomes the newest transmission, if there is one.
use Rattle.std.specs.Prelude.{ℕ, ◌+◌, Bool, false, List, [], ◌∷◌, ◌++◌, length, Option}
pub use Rattle.p25_packet_blocks.specs.declared.packet.Packet.{Packet}
use Rattle.p25_delivery.specs.Halves.{Sending, Receiving, Outgoing, Incoming, Mark}
use Rattle.p25_messages.specs.{declared.answers.Offer.{Offer, TheVariants.{Taken}}, declared.answers.Resend.{Resend}}
use Rattle.p25_messages.specs.{declared.answers.SenderHeard.{SenderHeard, TheVariants.{Acknowledged}}, declared.answers.Reopen.{Reopen, TheVariants.{Sent}}}
use Rattle.p25_messages.specs.declared.answers.Heard.{Heard, TheVariants.{Delivered}}
use Rattle.p25_messages.specs.AnswerSteps.{offer_step, resend_step, reopen_step, receiver_step, sender_step}
pub use Rattle.p25_messages.specs.declared.step_kind.StepKind.{StepKind}

-- a mark of a sending half with a number of its messages delivered
abbrev pub mark_of : Outgoing → ℕ → Mark
mark_of o delivered = record { sent = length o.sent; delivered = delivered; acknowledged = o.acknowledged }

-- a message was offered: if it is taken it was sent
abbrev pub sent_after : Outgoing → List ℕ → Offer → List (List ℕ)
sent_after o message (Taken number blocks packet) = o.sent ++ message ∷ []
sent_after o message answer = o.sent

unfoldable pub after_offer : Outgoing → List ℕ → Sending × Offer → Outgoing × (StepKind × Option Packet)
after_offer o message x = (record o { sender = x.0; sent = sent_after o message x.1 }, offer_step x.1)

-- a timeout
unfoldable pub after_timeout : Outgoing → Sending × Resend → Outgoing × (StepKind × Option Packet)
after_timeout o x = (record o { sender = x.0 }, resend_step x.1)

-- the half was to reopen its session, with a number of its messages delivered; if a message is given up, and not the opening packet transmitted
-- again, its session ends
abbrev pub marks_after : Outgoing → ℕ → Reopen → Bool → List Mark
marks_after o delivered (Sent number packet) false = o.marks ++ mark_of o delivered ∷ []
marks_after o delivered answer again = o.marks

unfoldable pub after_reopening : Outgoing → ℕ → Bool → Sending × Reopen → Outgoing × (StepKind × Option Packet)
after_reopening o delivered again x = (record o { sender = x.0; marks = marks_after o delivered x.1 again }, reopen_step x.1)

-- the receiver received a packet: its response is the newest transmission
abbrev pub received_after : Incoming → Heard → List (List ℕ)
received_after i (Delivered number message answer) = i.received ++ message ∷ []
received_after i answer = i.received

unfoldable pub after_data : Incoming → Receiving × Heard → Incoming × (StepKind × Option Packet)
after_data i x = (record { receiver = x.0; received = received_after i x.1 }, receiver_step x.1)

-- the sender received a response: its transmission then is the newest one
abbrev pub acknowledged_after : Outgoing → SenderHeard → ℕ
acknowledged_after o (Acknowledged number) = o.acknowledged + 1
acknowledged_after o answer = o.acknowledged

unfoldable pub after_answer : Outgoing → Sending × SenderHeard → Outgoing × (StepKind × Option Packet)
after_answer o x = (record o { sender = x.0; acknowledged = acknowledged_after o x.1 }, sender_step x.1)
