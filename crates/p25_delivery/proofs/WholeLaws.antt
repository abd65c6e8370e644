-- The sessions of a delivery make up its lists: in every run the marks are in order, so the parts between them are end to end.
use Rattle.std.proofs.{Common.{◌≡◌, ℕ, ◌+◌, ◌-◌, ◌≤◌, Bool, false, List, [], ◌∷◌, ◌++◌, length, ap, ◌∙◌, arith, length-append, append-nil, true}, lemmas.List.Sums.{sum_by-cons}}
use Rattle.std.specs.{Prelude.{sum_by}, List.{flat_map}}
use Rattle.p25_bits.specs.Bits.{part}
use Rattle.p25_bits.proofs.PartLaws.{part_add, part_whole}
use Rattle.p25_messages.specs.{declared.answers.Offer.{Offer}, declared.answers.Offer.TheVariants.{Taken}, declared.answers.Resend.{Resend}, declared.answers.Resend.TheVariants.{Sent}}
use Rattle.p25_messages.specs.{declared.answers.SenderHeard.{SenderHeard}, declared.answers.SenderHeard.TheVariants.{Acknowledged}, declared.answers.Reopen.{Reopen}}
use Rattle.p25_messages.specs.{declared.answers.Reopen.TheVariants.{Sent as ReopenSent}, declared.answers.Heard.{Heard}, declared.answers.Heard.TheVariants.{Delivered}}
use Rattle.p25_delivery.specs.{declared.outbound.Mark.{Mark}, Halves.{Sending, Receiving}, HalfRules.{after_offer, after_timeout, after_reopening, after_data, after_answer}}
use Rattle.p25_delivery.specs.{SenderRules.{offered, timed_out, sender_heard, reopened, is_opening}, ReceiverRules.{receiver_heard}}
use Rattle.p25_delivery.specs.Delivery.{Session, Delivery, first_delivery, first_mark, present_mark, session_between, sessions_from, with_outbound, with_inbound, Happening, Offering, Time_up, Opening_again, Data_heard, Answer_heard, happens, delivery_run}
use Rattle.p25_delivery.specs.Orderly.{AreWhole}
use Rattle.p25_delivery.proofs.{SessionLaws.{IsWithin, first-within, within-more}, RunLaws.{run-keeps_all}}

-- each mark lies within the next, and the last within the present
unfoldable pub AreInOrder : Mark → List Mark → Mark → Type 0
AreInOrder from [] last = IsWithin last from
AreInOrder from (mark ∷ marks) last = IsWithin mark from × AreInOrder mark marks last

pub in-order-grown : (from : Mark) (marks : List Mark) (last more : Mark) → IsWithin more last → AreInOrder from marks last → AreInOrder from marks more
unfolding AreInOrder
in-order-grown from [] last more grown order = within-more last more grown from order
in-order-grown from (mark ∷ marks) last more grown order = (order.0, in-order-grown mark marks last more grown order.1)

pub in-order-marked : (from : Mark) (marks : List Mark) (last : Mark) → AreInOrder from marks last → AreInOrder from (marks ++ last ∷ []) last
unfolding AreInOrder
in-order-marked from [] last order = (order, record { sent = omega arith; delivered = omega arith; acknowledged = omega arith })
in-order-marked from (mark ∷ marks) last order = (order.0, in-order-marked mark marks last order.1)

abbrev pub IsInOrder : Delivery → Type 0
IsInOrder w = AreInOrder first_mark w.outbound.marks (present_mark w)

offer-in-order : (w : Delivery) (message : List ℕ) (x : Sending × Offer) → IsInOrder w → IsInOrder (with_outbound w (after_offer w.outbound message x)).0
unfolding with_outbound after_offer
offer-in-order w message (s, Taken number blocks packet) h =
    in-order-grown first_mark w.outbound.marks (present_mark w) _
    (record { sent = omega (arith, length-append w.outbound.sent (message ∷ [])); delivered = omega arith; acknowledged = omega arith }) h
offer-in-order w message x h = h

timeout-in-order : (w : Delivery) (x : Sending × Resend) → IsInOrder w → IsInOrder (with_outbound w (after_timeout w.outbound x)).0
unfolding with_outbound after_timeout
timeout-in-order w (s, Sent number tries packet) h = h
timeout-in-order w x h = h

reopen-in-order : (w : Delivery) (again : Bool) (x : Sending × Reopen) → IsInOrder w
    → IsInOrder (with_outbound w (after_reopening w.outbound (length w.inbound.received) again x)).0
unfolding with_outbound after_reopening
reopen-in-order w true (s, ReopenSent number packet) h = h
reopen-in-order w false (s, ReopenSent number packet) h = in-order-marked first_mark w.outbound.marks (present_mark w) h
reopen-in-order w again x h = h

data-in-order : (w : Delivery) (x : Receiving × Heard) → IsInOrder w → IsInOrder (with_inbound w (after_data w.inbound x)).0
unfolding with_inbound after_data
data-in-order w (r, Delivered number message answer) h =
    in-order-grown first_mark w.outbound.marks (present_mark w) _
    (record { sent = omega arith; delivered = omega (arith, length-append w.inbound.received (message ∷ [])); acknowledged = omega arith }) h
data-in-order w x h = h

answer-in-order : (w : Delivery) (x : Sending × SenderHeard) → IsInOrder w → IsInOrder (with_outbound w (after_answer w.outbound x)).0
unfolding with_outbound after_answer
answer-in-order w (s, Acknowledged number) h =
    in-order-grown first_mark w.outbound.marks (present_mark w) _ (record { sent = omega arith; delivered = omega arith; acknowledged = omega arith }) h
answer-in-order w x h = h

pub happens-in-order : (w : Delivery) (event : Happening) → IsInOrder w → IsInOrder (happens w event).0
unfolding happens
happens-in-order w (Offering message) h = offer-in-order w message (offered w.outbound.sender message) h
happens-in-order w Time_up h = timeout-in-order w (timed_out w.outbound.sender) h
happens-in-order w Opening_again h = reopen-in-order w (is_opening w.outbound.sender.outstanding) (reopened w.outbound.sender) h
happens-in-order w (Data_heard packet) h = data-in-order w (receiver_heard w.inbound.receiver packet) h
happens-in-order w (Answer_heard packet) h = answer-in-order w (sender_heard w.outbound.sender packet) h

pub first-in-order : IsInOrder first_delivery
unfolding AreInOrder
first-in-order = first-within first_mark

-- The parts between marks in order are together the part after the first.

parts-meet : (from to last : ℕ) (xs : List (List ℕ)) → from ≤ to → to ≤ last
    → part from (to - from) xs ++ part to (last - to) xs ≡ part from (last - from) xs
parts-meet from to last xs first second =
    ap (λ (n : ℕ). part from (to - from) xs ++ part n (last - to) xs) (omega (arith, first))
    ∙ part_add from (to - from) (last - to) xs
    ∙ ap (λ (n : ℕ). part from n xs) (omega (arith, first, second))

in-order-first : (from : Mark) (marks : List Mark) (last : Mark) → AreInOrder from marks last → IsWithin last from
unfolding AreInOrder
in-order-first from [] last order = order
in-order-first from (mark ∷ marks) last order = within-more mark last (in-order-first mark marks last order.1) from order.0

whole-sent : (from : Mark) (marks : List Mark) (w : Delivery) → AreInOrder from marks (present_mark w)
    → flat_map (λ (session : Session). session.sent) (sessions_from from marks w) ≡ part from.sent (length w.outbound.sent - from.sent) w.outbound.sent
unfolding AreInOrder sessions_from
whole-sent from [] w order = append-nil (part from.sent (length w.outbound.sent - from.sent) w.outbound.sent)
whole-sent from (mark ∷ marks) w order =
    cc (whole-sent mark marks w order.1, parts-meet from.sent mark.sent (length w.outbound.sent) w.outbound.sent order.0.sent (in-order-first mark marks (present_mark w) order.1).sent)

whole-delivered : (from : Mark) (marks : List Mark) (w : Delivery) → AreInOrder from marks (present_mark w)
    → flat_map (λ (session : Session). session.delivered) (sessions_from from marks w)
    ≡ part from.delivered (length w.inbound.received - from.delivered) w.inbound.received
unfolding AreInOrder sessions_from
whole-delivered from [] w order = append-nil (part from.delivered (length w.inbound.received - from.delivered) w.inbound.received)
whole-delivered from (mark ∷ marks) w order =
    cc (
      whole-delivered mark marks w order.1,
      parts-meet from.delivered mark.delivered (length w.inbound.received) w.inbound.received order.0.delivered
          (in-order-first mark marks (present_mark w) order.1).delivered,
    )

whole-acknowledged : (from : Mark) (marks : List Mark) (w : Delivery) → AreInOrder from marks (present_mark w)
    → sum_by (λ (session : Session). session.acknowledged) (sessions_from from marks w) ≡ w.outbound.acknowledged - from.acknowledged
unfolding AreInOrder sessions_from
whole-acknowledged from [] w order = omega (arith, sum_by-cons (λ (session : Session). session.acknowledged) (session_between from (present_mark w) w) [])
whole-acknowledged from (mark ∷ marks) w order =
    omega (
      arith,
      sum_by-cons (λ (session : Session). session.acknowledged) (session_between from mark w) (sessions_from mark marks w),
      whole-acknowledged mark marks w order.1,
      order.0.acknowledged,
      (in-order-first mark marks (present_mark w) order.1).acknowledged,
    )

whole-count : (from : Mark) (marks : List Mark) (w : Delivery) → length (sessions_from from marks w) ≡ length marks + 1
unfolding sessions_from
whole-count from [] w = omega arith
whole-count from (mark ∷ marks) w = omega (arith, whole-count mark marks w)

pub sessions-whole : (w : Delivery) → IsInOrder w → AreWhole w
sessions-whole w order = record {
  sent = whole-sent first_mark w.outbound.marks w order ∙ part_whole (length w.outbound.sent - 0) w.outbound.sent (omega arith);
  delivered = whole-delivered first_mark w.outbound.marks w order ∙ part_whole (length w.inbound.received - 0) w.inbound.received (omega arith);
  acknowledged = omega (arith, whole-acknowledged first_mark w.outbound.marks w order);
  count = whole-count first_mark w.outbound.marks w;
}

pub run-whole : (events : List Happening) → AreWhole (delivery_run first_delivery events)
run-whole events =
    sessions-whole (delivery_run first_delivery events) (run-keeps_all happens IsInOrder happens-in-order events first_delivery first-in-order)
