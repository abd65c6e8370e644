-- The step of each result of a sender or a receiver: its type, and the packet to transmit, if there is one.
use Rattle.std.specs.Prelude.{Option, Some, None}
use Rattle.p25_packet_blocks.specs.declared.packet.Packet.{Packet}
use Rattle.p25_messages.specs.declared.answers.Offer.{Offer, TheVariants.{Taken as OfferTaken, Busy as OfferBusy, Down as DownAtOffer}}
use Rattle.p25_messages.specs.declared.answers.Resend.{Resend, TheVariants.{Sent, Idle as ResendIdle, Down as DownAtTimeout}}
use Rattle.p25_messages.specs.declared.answers.SenderHeard.{SenderHeard, TheVariants.{Acknowledged as HeardAck, Opened as SenderOpened, Retry as HeardRetry, Repeat as HeardRepeat, Ignored as SenderIgnored, Down as DownAtAnswer}}
use Rattle.p25_messages.specs.declared.answers.Reopen.{Reopen as ReopenAnswer, TheVariants.{Sent as ReopenSent, Up as ReopenUp}}
use Rattle.p25_messages.specs.declared.answers.Heard.{Heard, TheVariants.{Delivered as HeardDelivered, Opened as ReceiverOpened, Again as HeardAgain, Kept as HeardKept, RefusedCrc as HeardCrc, RefusedOrder as HeardOrder, Ignored as ReceiverIgnored}}
use Rattle.p25_messages.specs.declared.step_kind.Way.TheVariants.{Packets, Answers}
use Rattle.p25_messages.specs.declared.step_kind.StepKind.{StepKind, TheVariants.{Taken, Busy, OfferDown, Resent, Idle, TimeoutDown, Reopened, Up, Ignored, Delivered, SynHeard, Again, Kept, RefusedCrc, RefusedOrder, Acknowledged, LinkOpened, Retry, Repeat, AnswerDown}}

-- a message was offered
abbrev pub offer_step : Offer → StepKind × Option Packet
offer_step (OfferTaken number blocks packet) = (Taken number blocks, Some packet)
offer_step OfferBusy = (Busy, None)
offer_step DownAtOffer = (OfferDown, None)

-- a timeout
abbrev pub resend_step : Resend → StepKind × Option Packet
resend_step (Sent number tries packet) = (Resent number tries, Some packet)
resend_step ResendIdle = (Idle, None)
resend_step DownAtTimeout = (TimeoutDown, None)

-- the session was to be reopened
abbrev pub reopen_step : ReopenAnswer → StepKind × Option Packet
reopen_step (ReopenSent number packet) = (Reopened number, Some packet)
reopen_step ReopenUp = (Up, None)

-- a receiver received a packet
abbrev pub receiver_step : Heard → StepKind × Option Packet
receiver_step (HeardDelivered number message answer) = (Delivered number message, Some answer)
receiver_step (ReceiverOpened number answer) = (SynHeard number, Some answer)
receiver_step (HeardAgain number answer) = (Again number, Some answer)
receiver_step (HeardKept number flags answer) = (Kept number flags, Some answer)
receiver_step (HeardCrc number answer) = (RefusedCrc number, Some answer)
receiver_step (HeardOrder last answer) = (RefusedOrder last, Some answer)
receiver_step ReceiverIgnored = (Ignored Packets, None)

-- a sender received a response
abbrev pub sender_step : SenderHeard → StepKind × Option Packet
sender_step (HeardAck number) = (Acknowledged number, None)
sender_step (SenderOpened number) = (LinkOpened number, None)
sender_step (HeardRetry number wanted tries packet) = (Retry number wanted tries, Some packet)
sender_step (HeardRepeat number tries packet) = (Repeat number tries, Some packet)
sender_step SenderIgnored = (Ignored Answers, None)
sender_step DownAtAnswer = (AnswerDown, None)
