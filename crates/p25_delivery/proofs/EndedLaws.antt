-- Whatever happens in a delivery, each session that ends was the present one. By the rules, each result in turn.
use Rattle.std.proofs.Common.{Bool, false, List, ℕ, length, true}
use Rattle.p25_delivery.specs.{Halves.{Sending, Receiving}, SenderRules.{offered, timed_out, sender_heard, reopened, is_opening}, ReceiverRules.{receiver_heard}}
use Rattle.p25_delivery.specs.HalfRules.{after_offer, after_timeout, after_reopening, after_data, after_answer}
use Rattle.p25_delivery.specs.Delivery.{Delivery, Session, present_session, with_outbound, with_inbound, Happening, Offering, Time_up, Opening_again, Data_heard, Answer_heard, happens}
use Rattle.p25_messages.specs.{declared.answers.Offer.{Offer}, declared.answers.Offer.TheVariants.{Taken}, declared.answers.Resend.{Resend}, declared.answers.SenderHeard.{SenderHeard}}
use Rattle.p25_messages.specs.{declared.answers.SenderHeard.TheVariants.{Acknowledged}, declared.answers.Reopen.{Reopen}, declared.answers.Reopen.TheVariants.{Sent as ReopenSent}}
use Rattle.p25_messages.specs.{declared.answers.Heard.{Heard}, declared.answers.Heard.TheVariants.{Delivered}}
use Rattle.p25_delivery.proofs.SessionLaws.{IsDivided, divided-sent, divided-delivered, divided-acknowledged, divided-marked}

offer-divided : (P : Session → Type 0) (w : Delivery) (message : List ℕ) (x : Sending × Offer) → IsDivided P w → IsDivided P (with_outbound w (after_offer w.outbound message x)).0
unfolding with_outbound after_offer
offer-divided P w message (s, Taken number blocks packet) h = divided-sent P w message h
offer-divided P w message x h = h

timeout-divided : (P : Session → Type 0) (w : Delivery) (x : Sending × Resend) → IsDivided P w → IsDivided P (with_outbound w (after_timeout w.outbound x)).0
unfolding with_outbound after_timeout
timeout-divided P w x h = h

reopen-divided : (P : Session → Type 0) (w : Delivery) (again : Bool) (x : Sending × Reopen)
    → IsDivided P w → P (present_session w) → IsDivided P (with_outbound w (after_reopening w.outbound (length w.inbound.received) again x)).0
unfolding with_outbound after_reopening
reopen-divided P w true (s, ReopenSent number packet) h p = h
reopen-divided P w false (s, ReopenSent number packet) h p = divided-marked P w h p
reopen-divided P w again x h p = h

data-divided : (P : Session → Type 0) (w : Delivery) (x : Receiving × Heard) → IsDivided P w → IsDivided P (with_inbound w (after_data w.inbound x)).0
unfolding with_inbound after_data
data-divided P w (r, Delivered number message answer) h = divided-delivered P w message h
data-divided P w x h = h

answer-divided : (P : Session → Type 0) (w : Delivery) (x : Sending × SenderHeard) → IsDivided P w → IsDivided P (with_outbound w (after_answer w.outbound x)).0
unfolding with_outbound after_answer
answer-divided P w (s, Acknowledged number) h = divided-acknowledged P w h
answer-divided P w x h = h

pub happens-divided : (P : Session → Type 0) (w : Delivery) (event : Happening) → IsDivided P w → P (present_session w) → IsDivided P (happens w event).0
unfolding happens
happens-divided P w (Offering message) h p = offer-divided P w message (offered w.outbound.sender message) h
happens-divided P w Time_up h p = timeout-divided P w (timed_out w.outbound.sender) h
happens-divided P w Opening_again h p = reopen-divided P w (is_opening w.outbound.sender.outstanding) (reopened w.outbound.sender) h p
happens-divided P w (Data_heard packet) h p = data-divided P w (receiver_heard w.inbound.receiver packet) h
happens-divided P w (Answer_heard packet) h p = answer-divided P w (sender_heard w.outbound.sender packet) h
