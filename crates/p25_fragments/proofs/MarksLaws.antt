-- In every run the world of long messages has as many marks as the inner world. By the steps of the inner world, each of which makes at most one
-- mark.
use Rattle.std.proofs.Common.{◌≡◌, ℕ, ◌+◌, ◌⊎◌, inl, inr, Bool, true, false, cond, List, [], ◌∷◌, ◌++◌, length, Option, Some, None, refl, ap, sym, subst, ◌∙◌, arith, length-append}
use Rattle.std.specs.Prelude.{nat_lt}
use Rattle.p25_messages.specs.{LongMessages.{part_count, part_of}, declared.answers.Offer.{Offer}, declared.answers.Offer.TheVariants.{Taken}, declared.step_kind.StepKind.{StepKind}}
use Rattle.p25_messages.specs.declared.step_kind.StepKind.TheVariants.{Acknowledged, Delivered}
use Rattle.p25_delivery.proofs.RunLaws.{run-keeps_all}
use Rattle.p25_delivery.specs.{Halves.{Sending}, SenderRules.{offered}, declared.outbound.Mark.{Mark}, HalfRules.{after_offer}}
use Rattle.p25_delivery.specs.Delivery.{Delivery, with_outbound, Happening, Offering, happens, present_mark}
use Rattle.p25_stations.specs.{declared.step.Event.{Event}, declared.step.Event.TheVariants.{Send}, declared.step.Step.{Step}, WorldState.{WorldState}, Steps.{world_step}}
use Rattle.p25_stations.proofs.StepLaws.{Does, rests, does, step-does}
use Rattle.p25_fragments.specs.{declared.long_stations.OutstandingPart.{OutstandingPart}, declared.joiner.Joined.{Joined}, declared.joiner.Joined.TheVariants.{Whole as JoinedWhole}}
use Rattle.p25_fragments.specs.{declared.long_step.LongEvent.{LongEvent}, declared.long_step.LongEvent.TheVariants.{Long, Inner}, declared.long_step.Then.{Then}}
use Rattle.p25_fragments.specs.{declared.long_step.Then.TheVariants.{Finished}, declared.long_step.LongStep.{LongStep}, Joining.{Joining, message_taken}}
use Rattle.p25_fragments.specs.LongState.{LongState, long_delivery, first_long}
use Rattle.p25_fragments.specs.{LongSteps.{started, long_offered, next_offered, after_acknowledged, after_delivered, after_kind, inner_happened, long_step}, LongRuns.{long_run}}
use Rattle.p25_fragments.proofs.OfferLaws.{OfferedAs, told_down, told_busy, told_taken, offered-as}
use Rattle.p25_fragments.proofs.{MoveLaws.{Moves, moves_nothing, ends, delivers, hears_opening, acknowledges, opens_session, IsNoOffering, happens-moves}, FollowsLaws.{happened-on, happened-end}}

-- The marks of a delivery.

erasures_in : Delivery → List Mark
erasures_in v = v.outbound.marks

-- marks stay, or there is one more
OneMore : List Mark → List Mark → Type 0
OneMore before after = (after ≡ before) ⊎ ((mark : Mark) × (after ≡ before ++ mark ∷ []))

offer-marks : (v : Delivery) (message : List ℕ) (x : Sending × Offer) → erasures_in (with_outbound v (after_offer v.outbound message x)).0 ≡ erasures_in v
unfolding erasures_in with_outbound after_offer
offer-marks v message (s, Taken number blocks packet) = refl
offer-marks v message x = refl

moved-marks : (v : Delivery) (happening : Happening) (x : Delivery × StepKind) → Moves v happening x → OneMore (erasures_in v) (erasures_in x.0)
unfolding OneMore erasures_in
moved-marks v h x (moves_nothing p o l e) = inl (ap (λ (u : Delivery). u.outbound.marks) e)
moved-marks v h x (ends number p d i n o l e) = inr (present_mark v, ap (λ (u : Delivery). u.outbound.marks) e)
moved-marks v h x (delivers number message k o e) = inl (ap (λ (u : Delivery). u.outbound.marks) e)
moved-marks v h x (hears_opening number packet is syn k o e) = inl (ap (λ (u : Delivery). u.outbound.marks) e)
moved-marks v h x (acknowledges number message k o p up e) = inl (ap (λ (u : Delivery). u.outbound.marks) e)
moved-marks v h x (opens_session number p o q n l e) = inl (ap (λ (u : Delivery). u.outbound.marks) e)

happens-marks : (v : Delivery) (happening : Happening) → OneMore (erasures_in v) (erasures_in (happens v happening).0)
unfolding OneMore happens IsNoOffering
happens-marks v (Offering message) = inl (offer-marks v message (offered v.outbound.sender message))
happens-marks v happening = moved-marks v happening (happens v happening) (happens-moves v happening tt)

-- The marks of the world of long messages.

-- as many marks as the inner world
AreMarked : LongState → Type 0
AreMarked w = length w.marks ≡ length (erasures_in w.inner.delivery)

send-marks : (w : WorldState) (message : List ℕ) → erasures_in (world_step w (Send message)).0.delivery ≡ erasures_in w.delivery
unfolding world_step happens
send-marks w message = offer-marks w.delivery message (offered w.delivery.outbound.sender message)

started-marks : (w : LongState) (message : List ℕ) → AreMarked w → AreMarked (started w message (world_step w.inner (Send (part_of message 0)))).0
unfolding AreMarked started
started-marks w message h = cc (send-marks w.inner (part_of message 0))

offered-marks : (w : LongState) (message : List ℕ) (x : WorldState × Step)
    → AreMarked w → x ≡ world_step w.inner (Send (part_of message 0)) → OfferedAs w message x → AreMarked (long_offered w message).0
offered-marks w message x h i (told_down y e) = rw e h
offered-marks w message x h i (told_busy y e) = rw e h
offered-marks w message x h i (told_taken number blocks k d o e) = rw (e, i) (started-marks w message h)

acknowledged-marks : (out : Option OutstandingPart) (w : LongState) → AreMarked w → AreMarked (after_acknowledged out w).0
unfolding AreMarked after_acknowledged next_offered
acknowledged-marks None w h = h
acknowledged-marks (Some sent) w h =
    let part = part_of sent.message (sent.number + 1) in
    let next : LongState × Then = next_offered w (record sent { number = sent.number + 1 }) (world_step w.inner (Send part)) in
    let last : LongState × Then = (record w { outstanding = None; acknowledged = w.acknowledged + 1 }, Finished) in
    elim (nat_lt (sent.number + 1) (part_count (length sent.message))) as (λ (b : Bool). AreMarked (cond b next last).0) [ true ↦ cc (send-marks w.inner part) | false ↦ h ]

delivered-marks : (w : LongState) (x : Joining × Joined) → AreMarked w → AreMarked (after_delivered w x).0
unfolding AreMarked after_delivered
delivered-marks w (j, JoinedWhole message) h = h
delivered-marks w x h = h

kind-marks : (kind : StepKind) (w : LongState) → AreMarked w → AreMarked (after_kind kind w).0
unfolding AreMarked after_kind
kind-marks (Acknowledged number) w h = acknowledged-marks w.outstanding w h
kind-marks (Delivered number message) w h = delivered-marks w (message_taken w.joining message) h
kind-marks kind w h = h

inner-marks : (w : LongState) (inner : WorldState) (step : Step) → AreMarked w → OneMore (erasures_in w.inner.delivery) (erasures_in inner.delivery) → AreMarked (inner_happened w (inner, step)).0
unfolding AreMarked erasures_in OneMore
inner-marks w inner step h (inl same) =
    rw (happened-on w inner step same) (kind-marks step.kind (record w { inner = inner }) (cc))
inner-marks w inner step h (inr (mark, more)) =
    let count = length-append w.inner.delivery.outbound.marks (mark ∷ []) in
    rw (happened-end w inner step mark more) (omega (arith, length-append w.marks (present_mark (long_delivery w) ∷ []), h, ap length more, count))

does-marks : (w : LongState) (event : Event) (x : WorldState × Step) → AreMarked w → Does w.inner event x → AreMarked (inner_happened w x).0
unfolding OneMore
does-marks w event x h (rests kind quiet) = inner-marks w _ _ h (inl refl)
does-marks w event x h (does happening false_pass has) = inner-marks w _ _ h (happens-marks w.inner.delivery happening)

step-marks : (w : LongState) (event : LongEvent) → AreMarked w → AreMarked (long_step w event).0
unfolding long_step
step-marks w (Long message) h = offered-marks w message (world_step w.inner (Send (part_of message 0))) h refl (offered-as w message)
step-marks w (Inner event) h = does-marks w event (world_step w.inner event) h (step-does w.inner event)

pub long-marked : (events : List LongEvent) → length (long_run first_long events).marks ≡ length (long_run first_long events).inner.delivery.outbound.marks
unfolding AreMarked erasures_in
long-marked events = run-keeps_all long_step AreMarked step-marks events first_long refl
