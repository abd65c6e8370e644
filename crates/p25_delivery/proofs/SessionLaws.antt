-- The sessions of a delivery: the effect of one more message on them, and that of a mark. By the parts of lists between marks that lie within them.
use Rattle.std.proofs.{Common.{◌≡◌, ℕ, ◌+◌, ◌-◌, ◌%◌, ◌≤◌, List, [], ◌∷◌, ◌++◌, length, refl, ap, ap₂, sym, ◌∙◌, subst, arith, length-append}, lemmas.List.{drop-append-le, drop_all}}
use Rattle.std.proofs.lemmas.List.Elements.{All-nil, All-head, All-tail, All-push, All-weaker}
use Rattle.std.specs.Prelude.{All}
use Rattle.p25_bits.specs.Bits.{part}
use Rattle.p25_bits.proofs.PartLaws.{part_left, drop-is_part}
use Rattle.p25_delivery.specs.declared.outbound.Mark.{Mark}
use Rattle.p25_delivery.specs.Delivery.{Delivery, first_delivery, Session, empty_session, first_mark, present_mark, session_between, sessions_from, sessions_of, last_mark, present_session, first_number}

-- one more message sent, delivered, or acknowledged
abbrev pub with_sent : Session → List ℕ → Session
with_sent s message = record s { sent = s.sent ++ message ∷ [] }

abbrev pub with_delivered : Session → List ℕ → Session
with_delivered s message = record s { delivered = s.delivered ++ message ∷ [] }

abbrev pub with_acknowledged : Session → Session
with_acknowledged s = record s { acknowledged = s.acknowledged + 1 }

-- a delivery with one more message sent, delivered, or acknowledged, and with a mark of the present moment
abbrev pub one_sent : Delivery → List ℕ → Delivery
one_sent w message = record w { outbound = record w.outbound { sent = w.outbound.sent ++ message ∷ [] } }

abbrev pub one_delivered : Delivery → List ℕ → Delivery
one_delivered w message = record w { inbound = record w.inbound { received = w.inbound.received ++ message ∷ [] } }

abbrev pub one_acknowledged : Delivery → Delivery
one_acknowledged w = record w { outbound = record w.outbound { acknowledged = w.outbound.acknowledged + 1 } }

abbrev pub marked : Delivery → Delivery
marked w = record w { outbound = record w.outbound { marks = w.outbound.marks ++ present_mark w ∷ [] } }

-- Marks within the counts of a delivery.

pub record IsWithin (limit mark : Mark) : Type 0 where
  pub sent : mark.sent ≤ limit.sent
  pub delivered : mark.delivered ≤ limit.delivered
  pub acknowledged : mark.acknowledged ≤ limit.acknowledged

pub within-more : (limit more : Mark) → IsWithin more limit → (mark : Mark) → IsWithin limit mark → IsWithin more mark
within-more limit more l mark h = record { sent = omega (arith, h.sent, l.sent); delivered = omega (arith, h.delivered, l.delivered); acknowledged = omega (arith, h.acknowledged, l.acknowledged) }

abbrev pub IsMarked : Delivery → Type 0
IsMarked w = All (IsWithin (present_mark w)) w.outbound.marks

last-within : (limit from : Mark) (marks : List Mark) → IsWithin limit from → All (IsWithin limit) marks → IsWithin limit (last_mark from marks)
unfolding last_mark
last-within limit from [] here all = here
last-within limit from (mark ∷ marks) here all = last-within limit mark marks (All-head (IsWithin limit) mark marks all) (All-tail (IsWithin limit) mark marks all)

pub first-within : (limit : Mark) → IsWithin limit first_mark
first-within limit = record { sent = omega arith; delivered = omega arith; acknowledged = omega arith }

present-within : (w : Delivery) → IsMarked w → IsWithin (present_mark w) (last_mark first_mark w.outbound.marks)
present-within w all = last-within (present_mark w) first_mark w.outbound.marks (first-within (present_mark w)) all

last-more : (from : Mark) (marks : List Mark) (mark : Mark) → last_mark from (marks ++ mark ∷ []) ≡ mark
unfolding last_mark
last-more from [] mark = refl
last-more from (first ∷ marks) mark = last-more first marks mark

-- The sessions that have ended.

unfoldable pub ended_from : Mark → List Mark → List (List ℕ) → List (List ℕ) → List Session
ended_from from [] sent received = []
ended_from from (to ∷ marks) sent received =
    record {
      sent = part from.sent (to.sent - from.sent) sent;
      delivered = part from.delivered (to.delivered - from.delivered) received;
      acknowledged = to.acknowledged - from.acknowledged;
    } ∷ ended_from to marks sent received

abbrev pub ended_sessions : Delivery → List Session
ended_sessions w = ended_from first_mark w.outbound.marks w.outbound.sent w.inbound.received

sessions-from : (from : Mark) (marks : List Mark) (w : Delivery)
    → sessions_from from marks w ≡ ended_from from marks w.outbound.sent w.inbound.received ++ session_between (last_mark from marks) (present_mark w) w ∷ []
unfolding sessions_from ended_from last_mark
sessions-from from [] w = refl
sessions-from from (mark ∷ marks) w = cc (sessions-from mark marks w)

pub sessions-split : (w : Delivery) → sessions_of w ≡ ended_sessions w ++ present_session w ∷ []
sessions-split w = sessions-from first_mark w.outbound.marks w

-- they stay if the lists grow

-- a list has the parts of another, and may have more
abbrev Extends : List (List ℕ) → List (List ℕ) → Type 0
Extends xs ys = (at count : ℕ) → at + count ≤ length xs → part at count ys ≡ part at count xs

ended-more : (limit from : Mark) (marks : List Mark) (sent received more_sent more_received : List (List ℕ)) → limit.sent ≤ length sent → limit.delivered ≤ length received →
    Extends sent more_sent → Extends received more_received → IsWithin limit from → All (IsWithin limit) marks →
    ended_from from marks more_sent more_received ≡ ended_from from marks sent received
unfolding ended_from
ended-more limit from [] sent received more_sent more_received s r e f here all = refl
ended-more limit from (to ∷ marks) sent received more_sent more_received s r e f here all =
    let next = All-head (IsWithin limit) to marks all in
    let session : List (List ℕ) → List (List ℕ) → Session = λ (xs ys : List (List ℕ)). record { sent = xs; delivered = ys; acknowledged = to.acknowledged - from.acknowledged } in
    cc (
      e from.sent (to.sent - from.sent) (omega (arith, here.sent, next.sent, s)),
      f from.delivered (to.delivered - from.delivered)
          (omega (arith, here.delivered, next.delivered, r)),
      ended-more limit to marks sent received more_sent more_received s r e f next (All-tail (IsWithin limit) to marks all),
    )

-- and a mark ends one more

ended-marked : (from to : Mark) (marks : List Mark) (w : Delivery) → ended_from from (marks ++ to ∷ []) w.outbound.sent w.inbound.received ≡ ended_from from marks w.outbound.sent w.inbound.received ++
    session_between (last_mark from marks) to w ∷ []
unfolding ended_from last_mark
ended-marked from to [] w = refl
ended-marked from to (mark ∷ marks) w = cc (ended-marked mark to marks w)

-- The present session, with one more message.

rest-more : (at : ℕ) (xs ys : List (List ℕ)) → at ≤ length xs → part at (length (xs ++ ys) - at) (xs ++ ys) ≡ part at (length xs - at) xs ++ ys
rest-more at xs ys h = sym (drop-is_part at (xs ++ ys)) ∙ drop-append-le at xs ys h ∙ ap (λ (zs : List (List ℕ)). zs ++ ys) (drop-is_part at xs)

rest-none : (xs : List (List ℕ)) → part (length xs) (length xs - length xs) xs ≡ []
rest-none xs = sym (drop-is_part (length xs) xs) ∙ drop_all (length xs) xs (omega arith)

pub present-sent : (w : Delivery) (message : List ℕ) → IsMarked w → present_session (one_sent w message) ≡ with_sent (present_session w) message
present-sent w message all =
    cc (rest-more (last_mark first_mark w.outbound.marks).sent w.outbound.sent (message ∷ []) (present-within w all).sent)

pub present-delivered : (w : Delivery) (message : List ℕ) → IsMarked w → present_session (one_delivered w message) ≡ with_delivered (present_session w) message
present-delivered w message all =
    cc (rest-more (last_mark first_mark w.outbound.marks).delivered w.inbound.received (message ∷ []) (present-within w all).delivered)

pub present-acknowledged : (w : Delivery) → IsMarked w → present_session (one_acknowledged w) ≡ with_acknowledged (present_session w)
present-acknowledged w all = ap (λ (n : ℕ). record (present_session w) { acknowledged = n }) (omega (arith, (present-within w all).acknowledged))

-- The effect of a mark: the present session ends.

pub present-marked : (w : Delivery) → present_session (marked w) ≡ empty_session
present-marked w =
    let from : Mark → Session = λ (mark : Mark). session_between mark (present_mark w) w in
    ap from (last-more first_mark w.outbound.marks (present_mark w)) ∙
    ap₂ (λ (xs ys : List (List ℕ)). record { sent = xs; delivered = ys; acknowledged = w.outbound.acknowledged - w.outbound.acknowledged }) (rest-none w.outbound.sent) (rest-none w.inbound.received) ∙
    ap (λ (n : ℕ). record { sent = []; delivered = []; acknowledged = n }) (omega arith)

pub number-marked : (w : Delivery) → IsMarked w → first_number (marked w) ≡ (first_number w + (present_session w).acknowledged + 5) % 8
number-marked w all =
    let last = ap (λ (mark : Mark). mark.acknowledged) (last-more first_mark w.outbound.marks (present_mark w)) in
    omega (arith, last, length-append w.outbound.marks (present_mark w ∷ []), (present-within w all).acknowledged)

-- Deliveries whose marks lie within them, and whose sessions that have ended are all such.

abbrev pub IsDivided : (Session → Type 0) → Delivery → Type 0
IsDivided P w = IsMarked w × All P (ended_sessions w)

divided-more : (P : Session → Type 0) (w v : Delivery) → IsWithin (present_mark v) (present_mark w)
    → ended_sessions v ≡ ended_sessions w → v.outbound.marks ≡ w.outbound.marks → IsDivided P w → IsDivided P v
divided-more P w v l e m h = (
  rw m (All-weaker (IsWithin (present_mark w))
      (IsWithin (present_mark v)) (within-more (present_mark w) (present_mark v) l) w.outbound.marks h.0),
  rw e h.1,
)

pub divided-sent : (P : Session → Type 0) (w : Delivery) (message : List ℕ) → IsDivided P w → IsDivided P (one_sent w message)
divided-sent P w message h =
    let limit = present_mark w in
    divided-more P w (one_sent w message) (record { sent = omega (arith, length-append w.outbound.sent (message ∷ [])); delivered = omega arith; acknowledged = omega arith })
    (ended-more limit first_mark w.outbound.marks w.outbound.sent w.inbound.received (w.outbound.sent ++ message ∷ []) w.inbound.received (omega arith) (omega arith)
    (λ (at count : ℕ) (fits : at + count ≤ length w.outbound.sent). part_left at count w.outbound.sent (message ∷ []) fits)
    (λ (at count : ℕ) (fits : at + count ≤ length w.inbound.received). refl) (first-within limit) h.0) refl h

pub divided-delivered : (P : Session → Type 0) (w : Delivery) (message : List ℕ) → IsDivided P w → IsDivided P (one_delivered w message)
divided-delivered P w message h =
    let limit = present_mark w in
    divided-more P w (one_delivered w message) (record { sent = omega arith; delivered = omega (arith, length-append w.inbound.received (message ∷ [])); acknowledged = omega arith })
    (ended-more limit first_mark w.outbound.marks w.outbound.sent w.inbound.received w.outbound.sent (w.inbound.received ++ message ∷ []) (omega arith) (omega arith)
    (λ (at count : ℕ) (fits : at + count ≤ length w.outbound.sent). refl) (λ (at count : ℕ) (fits : at + count ≤ length w.inbound.received).
    part_left at count w.inbound.received (message ∷ []) fits) (first-within limit) h.0) refl h

pub divided-acknowledged : (P : Session → Type 0) (w : Delivery) → IsDivided P w → IsDivided P (one_acknowledged w)
divided-acknowledged P w h = divided-more P w (one_acknowledged w) (record { sent = omega arith; delivered = omega arith; acknowledged = omega arith }) refl refl h

pub divided-marked : (P : Session → Type 0) (w : Delivery) → IsDivided P w → P (present_session w) → IsDivided P (marked w)
divided-marked P w h p =
    let limit = present_mark w in (
      All-push (IsWithin limit) w.outbound.marks limit h.0 (record { sent = omega arith; delivered = omega arith; acknowledged = omega arith }),
      rw (ended-marked first_mark limit w.outbound.marks w) (All-push P (ended_sessions w) (present_session w) h.1 p),
    )

pub first-divided : (P : Session → Type 0) → IsDivided P first_delivery
unfolding ended_from
first-divided P = (All-nil (IsWithin first_mark), All-nil P)
