-- The sessions of long messages make up their lists: in every run, clean or not, the marks are in order. By the effect of an event on the lists and
-- on the marks.
use Rattle.std.proofs.Common.{◌≡◌, ℕ, ◌+◌, Bool, true, false, cond, nat_lt, List, [], ◌∷◌, length, Option, Some, None, arith, length-append}
use Rattle.p25_messages.specs.{LongMessages.{part_count, part_of}, declared.step_kind.StepKind.{StepKind, TheVariants.{Acknowledged, Delivered}}}
use Rattle.p25_delivery.specs.{Delivery.{first_mark, present_mark}, Orderly.{AreWhole}}
use Rattle.p25_delivery.proofs.{WholeLaws.{IsInOrder, first-in-order, in-order-grown, in-order-marked, sessions-whole}, RunLaws.{run-keeps_all}}
use Rattle.p25_stations.specs.{declared.step.Event.TheVariants.{Send}, declared.step.Step.{Step}, WorldState.{WorldState}, Steps.{world_step}}
use Rattle.p25_fragments.specs.{declared.long_step.LongEvent.{LongEvent}, declared.long_step.LongEvent.TheVariants.{Long, Inner}, Joining.{Joining, Joined, Whole as JoinedWhole, message_taken}}
use Rattle.p25_fragments.specs.{LongState.{LongState, OutstandingPart, first_long, long_delivery}, LongRuns.{long_run}}
use Rattle.p25_fragments.specs.LongSteps.{Then, Finished, after_acknowledged, after_delivered, after_kind, inner_happened, long_offered, long_step, next_offered, session_ended, started}
use Rattle.p25_fragments.proofs.OfferLaws.{OfferedAs, told_down, told_busy, told_taken, offered-as}

IsLongInOrder : LongState → Type 0
IsLongInOrder w = IsInOrder (long_delivery w)

started-in-order : (w : LongState) (message : List ℕ) (x : WorldState × Step) → IsLongInOrder w → IsLongInOrder (started w message x).0
unfolding IsLongInOrder started
started-in-order w message (inner, step) h =
    in-order-grown first_mark w.marks (present_mark (long_delivery w)) _
    (record { sent = omega (arith, length-append w.taken (message ∷ [])); delivered = omega arith; acknowledged = omega arith }) h

offered-in-order : (w : LongState) (message : List ℕ) (x : WorldState × Step) → OfferedAs w message x → IsLongInOrder w → IsLongInOrder (long_offered w message).0
offered-in-order w message x (told_down y e) h = rw e h
offered-in-order w message x (told_busy y e) h = rw e h
offered-in-order w message x (told_taken number blocks k d o e) h = rw e (started-in-order w message x h)

next-in-order : (w : LongState) (next : OutstandingPart) (x : WorldState × Step) → IsLongInOrder w → IsLongInOrder (next_offered w next x).0
unfolding IsLongInOrder next_offered
next-in-order w next (inner, step) h = h

acknowledged-in-order : (out : Option OutstandingPart) (w : LongState) → IsLongInOrder w → IsLongInOrder (after_acknowledged out w).0
unfolding IsLongInOrder after_acknowledged
acknowledged-in-order None w h = h
acknowledged-in-order (Some sent) w h =
    let next = next_offered w (record sent { number = sent.number + 1 }) (world_step w.inner (Send (part_of sent.message (sent.number + 1)))) in
    let last : LongState × Then = (record w { outstanding = None; acknowledged = w.acknowledged + 1 }, Finished) in
    elim (nat_lt (sent.number + 1) (part_count (length sent.message))) as (λ (b : Bool). IsInOrder (long_delivery (cond b next last).0)) [
      | true ↦ next-in-order w _ _ h
      | false ↦
          in-order-grown first_mark w.marks (present_mark (long_delivery w)) _ (record { sent = omega arith; delivered = omega arith; acknowledged = omega arith }) h
    ]

delivered-in-order : (w : LongState) (x : Joining × Joined) → IsLongInOrder w → IsLongInOrder (after_delivered w x).0
unfolding IsLongInOrder after_delivered
delivered-in-order w (j, JoinedWhole message) h =
    in-order-grown first_mark w.marks (present_mark (long_delivery w)) _
    (record { sent = omega arith; delivered = omega (arith, length-append w.whole (message ∷ [])); acknowledged = omega arith }) h
delivered-in-order w x h = h

kind-in-order : (kind : StepKind) (w : LongState) → IsLongInOrder w → IsLongInOrder (after_kind kind w).0
unfolding IsLongInOrder after_kind
kind-in-order (Acknowledged number) w h = acknowledged-in-order w.outstanding w h
kind-in-order (Delivered number message) w h = delivered-in-order w (message_taken w.joining message) h
kind-in-order kind w h = h

happened-in-order : (w : LongState) (x : WorldState × Step) → IsLongInOrder w → IsLongInOrder (inner_happened w x).0
unfolding IsLongInOrder inner_happened
happened-in-order w (inner, step) h =
    let now : LongState = record w { inner = inner } in
    elim (nat_lt (length w.inner.delivery.outbound.marks) (length inner.delivery.outbound.marks))
    as (λ (b : Bool). IsInOrder (long_delivery (cond b (session_ended now) (after_kind step.kind now)).0)) [
      | true ↦ in-order-marked first_mark w.marks (present_mark (long_delivery w)) h
      | false ↦ kind-in-order step.kind now h
    ]

step-in-order : (w : LongState) (event : LongEvent) → IsLongInOrder w → IsLongInOrder (long_step w event).0
unfolding long_step
step-in-order w (Long message) h = offered-in-order w message (world_step w.inner (Send (part_of message 0))) (offered-as w message) h
step-in-order w (Inner event) h = happened-in-order w (world_step w.inner event) h

pub run-whole : (events : List LongEvent) → AreWhole (long_delivery (long_run first_long events))
unfolding IsLongInOrder
run-whole events = sessions-whole _ (run-keeps_all long_step IsLongInOrder step-in-order events first_long first-in-order)
