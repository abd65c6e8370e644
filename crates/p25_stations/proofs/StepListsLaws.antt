-- Each step adds to the world's lists its messages, and counts one acknowledged if it is Acknowledged: by cases on the results of the stations; and a
-- run by induction.
use Rattle.std.proofs.{Common.{◌≡◌, ℕ, ◌+◌, Bool, true, false, cond, List, [], ◌∷◌, ◌++◌, length, refl, ap, sym, ◌∙◌, arith, append_assoc, append-nil}, lemmas.List.Sums.{sum_by-cons}}
use Rattle.p25_delivery.specs.{Runs.{run_by, steps_by}, Halves.{Sending, Receiving}, SenderRules.{offered, timed_out, sender_heard, reopened, is_opening}, ReceiverRules.{receiver_heard}}
use Rattle.p25_delivery.specs.{HalfRules.{after_offer, after_timeout, after_reopening, after_data, after_answer}, Delivery.{Delivery, Happening, with_outbound, with_inbound, happens}}
use Rattle.p25_messages.specs.{declared.answers.Offer.{Offer}, declared.answers.Offer.TheVariants.{Taken as OfferTaken}, declared.answers.Resend.{Resend}, declared.answers.Resend.TheVariants.{Sent}}
use Rattle.p25_messages.specs.{declared.answers.SenderHeard.{SenderHeard}, declared.answers.SenderHeard.TheVariants.{Acknowledged as HeardAck}, declared.answers.Reopen.{Reopen as ReopenAnswer}}
use Rattle.p25_messages.specs.{declared.answers.Reopen.TheVariants.{Sent as ReopenSent}, declared.answers.Heard.{Heard as HeardAnswer}}
use Rattle.p25_messages.specs.{declared.answers.Heard.TheVariants.{Delivered as HeardDelivered}, declared.step_kind.StepKind.{StepKind}}
use Rattle.p25_stations.specs.{declared.step.Event.{Event}, declared.step.Event.TheVariants.{Send, Timeout, Reopen, ToReceiver, ToSender}, declared.step.Step.{Step}, WorldState.{WorldState}}
use Rattle.p25_stations.specs.{Steps.{world_step}, Runs.{steps_of, world_run, delivered_by, delivered_in, sent_by, sent_in, is_acknowledged, acknowledged_in}}
use Rattle.p25_stations.proofs.StepLaws.{HasHappen, offers, is_late, opens, brings_data, brings_answer, IsQuiet, nothing, Does, rests, does, step-does}

-- the additions of an event, by the type of its step, to the lists of a delivery
record Tells (event : Event) (w : Delivery) (x : Delivery × StepKind) : Type 0 where
  pub delivered : x.0.inbound.received ≡ w.inbound.received ++ delivered_by x.1
  pub sent : x.0.outbound.sent ≡ w.outbound.sent ++ sent_by event x.1
  pub acknowledged : x.0.outbound.acknowledged ≡ w.outbound.acknowledged + cond (is_acknowledged x.1) 1 0

-- nothing more
none : (messages : List (List ℕ)) → messages ≡ messages ++ []
none messages = sym (append-nil messages)

-- the lists stay as they are, and the step adds nothing
silent : (event : Event) (w : Delivery) (x : Delivery × StepKind)
    → (x.0.inbound.received ≡ w.inbound.received) × (x.0.outbound.sent ≡ w.outbound.sent) × (x.0.outbound.acknowledged ≡ w.outbound.acknowledged) →
    (delivered_by x.1 ≡ []) × (sent_by event x.1 ≡ []) × (is_acknowledged x.1 ≡ false) → Tells event w x
silent event w x same told =
    record {
      delivered = cc (none w.inbound.received);
      sent = cc (none w.outbound.sent);
      acknowledged = omega (arith, same.2, ap (λ (b : Bool). cond {A = ℕ} b 1 0) told.2);
    }

offer-tells : (w : Delivery) (message : List ℕ) (answer : Sending × Offer) → Tells (Send message) w (with_outbound w (after_offer w.outbound message answer))
unfolding with_outbound after_offer
offer-tells w message (s, OfferTaken number blocks packet) = record { delivered = none w.inbound.received; sent = refl; acknowledged = omega arith }
offer-tells w message answer = silent (Send message) w _ (refl, refl, refl) (refl, refl, refl)

timeout-tells : (w : Delivery) (answer : Sending × Resend) → Tells Timeout w (with_outbound w (after_timeout w.outbound answer))
unfolding with_outbound after_timeout
timeout-tells w (s, Sent number tries packet) = silent Timeout w _ (refl, refl, refl) (refl, refl, refl)
timeout-tells w answer = silent Timeout w _ (refl, refl, refl) (refl, refl, refl)

reopen-tells : (w : Delivery) (count : ℕ) (again : Bool) (answer : Sending × ReopenAnswer) → Tells Reopen w (with_outbound w (after_reopening w.outbound count again answer))
unfolding with_outbound after_reopening
reopen-tells w count true (s, ReopenSent number packet) = silent Reopen w _ (refl, refl, refl) (refl, refl, refl)
reopen-tells w count false (s, ReopenSent number packet) = silent Reopen w _ (refl, refl, refl) (refl, refl, refl)
reopen-tells w count again answer = silent Reopen w _ (refl, refl, refl) (refl, refl, refl)

data-tells : (w : Delivery) (flips : List ℕ) (answer : Receiving × HeardAnswer) → Tells (ToReceiver flips) w (with_inbound w (after_data w.inbound answer))
unfolding with_inbound after_data
data-tells w flips (r, HeardDelivered number message answer) = record { delivered = refl; sent = none w.outbound.sent; acknowledged = omega arith }
data-tells w flips answer = silent (ToReceiver flips) w _ (refl, refl, refl) (refl, refl, refl)

answer-tells : (w : Delivery) (flips : List ℕ) (answer : Sending × SenderHeard) → Tells (ToSender flips) w (with_outbound w (after_answer w.outbound answer))
unfolding with_outbound after_answer
answer-tells w flips (s, HeardAck number) = record { delivered = none w.inbound.received; sent = none w.outbound.sent; acknowledged = omega arith }
answer-tells w flips answer = silent (ToSender flips) w _ (refl, refl, refl) (refl, refl, refl)

happening-tells : (w : Delivery) (event : Event) (false_pass : Bool) (happening : Happening) → HasHappen w event false_pass happening → Tells event w (happens w happening)
unfolding happens
happening-tells w event false_pass happening (offers message) = offer-tells w message (offered w.outbound.sender message)
happening-tells w event false_pass happening is_late = timeout-tells w (timed_out w.outbound.sender)
happening-tells w event false_pass happening opens = reopen-tells w (length w.inbound.received) (is_opening w.outbound.sender.outstanding) (reopened w.outbound.sender)
happening-tells w event false_pass happening (brings_data flips sent packet b n e) = data-tells w flips (receiver_heard w.inbound.receiver packet)
happening-tells w event false_pass happening (brings_answer flips sent packet b n e) = answer-tells w flips (sender_heard w.outbound.sender packet)

-- a quiet step is none of an event that sends
quiet-tells : (event : Event) (w : Delivery) (kind : StepKind) → IsQuiet kind → sent_by event kind ≡ [] → Tells event w (w, kind)
quiet-tells event w kind (nothing way) none_sent = silent event w _ (refl, refl, refl) (refl, none_sent, refl)
quiet-tells event w kind other none_sent = silent event w _ (refl, refl, refl) (refl, none_sent, refl)

none-sent : (event : Event) (kind : StepKind) → IsQuiet kind → sent_by event kind ≡ []
none-sent (Send message) kind (nothing way) = refl
none-sent event kind quiet = refl

told : (w : WorldState) (event : Event) (x : WorldState × Step) → Does w event x → Tells event w.delivery (x.0.delivery, x.1.kind)
told w event x (rests kind quiet) = quiet-tells event w.delivery kind quiet (none-sent event kind quiet)
told w event x (does happening false_pass has) = happening-tells w.delivery event false_pass happening has

step-tells : (w : WorldState) (event : Event) → Tells event w.delivery ((world_step w event).0.delivery, (world_step w event).1.kind)
step-tells w event = told w event (world_step w event) (step-does w event)

-- The additions of a run are those of its steps.

pub run-delivered : (events : List Event) (w : WorldState) → (world_run w events).delivery.inbound.received ≡ w.delivery.inbound.received ++ delivered_in (steps_of w events)
unfolding run_by steps_by delivered_in
run-delivered [] w = none w.delivery.inbound.received
run-delivered (event ∷ events) w =
    let step = world_step w event in
    run-delivered events step.0
    ∙ ap (λ (ms : List (List ℕ)). ms ++ delivered_in (steps_of step.0 events)) (step-tells w event).delivered
    ∙ append_assoc w.delivery.inbound.received (delivered_by step.1.kind) (delivered_in (steps_of step.0 events))

pub run-sent : (events : List Event) (w : WorldState) → (world_run w events).delivery.outbound.sent ≡ w.delivery.outbound.sent ++ sent_in events (steps_of w events)
unfolding run_by steps_by sent_in
run-sent [] w = none w.delivery.outbound.sent
run-sent (event ∷ events) w =
    let step = world_step w event in
    run-sent events step.0
    ∙ ap (λ (ms : List (List ℕ)). ms ++ sent_in events (steps_of step.0 events)) (step-tells w event).sent
    ∙ append_assoc w.delivery.outbound.sent (sent_by event step.1.kind) (sent_in events (steps_of step.0 events))

pub run-acknowledged : (events : List Event) (w : WorldState) → (world_run w events).delivery.outbound.acknowledged ≡ w.delivery.outbound.acknowledged + acknowledged_in (steps_of w events)
unfolding run_by steps_by
run-acknowledged [] w = omega arith
run-acknowledged (event ∷ events) w =
    let step = world_step w event in
    let more = sum_by-cons (λ (s : Step). cond (is_acknowledged s.kind) 1 0) step.1 (steps_of step.0 events) in
    omega (arith, run-acknowledged events step.0, (step-tells w event).acknowledged, more)
