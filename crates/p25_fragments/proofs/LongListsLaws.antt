-- Each step adds its message to the lists of long messages, and counts one acknowledged if it is Finished: by cases on the meaning of a step of the
-- inner world; and a run by induction.
use Rattle.std.proofs.Common.{◌≡◌, ℕ, ◌+◌, Bool, true, false, cond, List, [], ◌∷◌, ◌++◌, length, Option, Some, None, refl, ap, sym, ◌∙◌, arith, append_assoc, append-nil}
use Rattle.std.proofs.lemmas.List.Sums.{sum_by-cons}
use Rattle.std.specs.Prelude.{nat_lt}
use Rattle.p25_messages.specs.{LongMessages.{part_count, part_of}, declared.step_kind.StepKind.{StepKind}, declared.step_kind.StepKind.TheVariants.{Acknowledged, Delivered}}
use Rattle.p25_delivery.specs.{Runs.{run_by, steps_by}, declared.sender.Outstanding.{Outstanding}, declared.sender.Outstanding.TheVariants.{Nothing}}
use Rattle.p25_stations.specs.{declared.step.Event.{Event}, declared.step.Event.TheVariants.{Send}, declared.step.Step.{Step}, WorldState.{WorldState}, Steps.{world_step}}
use Rattle.p25_fragments.specs.{declared.joiner.Joined.{Joined}, declared.joiner.Joined.TheVariants.{Whole as JoinedWhole}, declared.long_step.LongEvent.{LongEvent}}
use Rattle.p25_fragments.specs.{declared.long_step.LongEvent.TheVariants.{Long, Inner}, declared.long_step.Then.{Then}, declared.long_step.Then.TheVariants.{Down, Finished}}
use Rattle.p25_fragments.specs.{declared.long_step.LongStep.{LongStep}, Joining.{Joining, message_taken}, LongState.{LongState, OutstandingPart}}
use Rattle.p25_fragments.specs.LongSteps.{after_acknowledged, after_delivered, after_kind, inner_happened, long_offered, long_offered_beside, long_step, next_offered, session_ended, started, unmoved, with_first}
use Rattle.p25_fragments.specs.LongRuns.{finished_in, is_finished, long_run, long_steps_of, taken_by, taken_in, whole_by, whole_in}

-- the additions of a step to the lists
record Tells (event : LongEvent) (w : LongState) (x : LongState × LongStep) : Type 0 where
  pub whole : x.0.whole ≡ w.whole ++ whole_by x.1.then
  pub taken : x.0.taken ≡ w.taken ++ taken_by event x.1.then
  pub acknowledged : x.0.acknowledged ≡ w.acknowledged + cond (is_finished x.1.then) 1 0

-- the additions to them by the consequence of a step of the inner world: it takes no long message
record ThenTells (w : LongState) (x : LongState × Then) : Type 0 where
  pub whole : x.0.whole ≡ w.whole ++ whole_by x.1
  pub taken : x.0.taken ≡ w.taken
  pub acknowledged : x.0.acknowledged ≡ w.acknowledged + cond (is_finished x.1) 1 0

-- nothing more
none : (messages : List (List ℕ)) → messages ≡ messages ++ []
none messages = sym (append-nil messages)

-- ---- the consequence of a step of the inner world

acknowledged-tells : (out : Option OutstandingPart) (w : LongState) → ThenTells w (after_acknowledged out w)
unfolding after_acknowledged next_offered
acknowledged-tells None w = record { whole = none w.whole; taken = refl; acknowledged = omega arith }
acknowledged-tells (Some sent) w =
    let next : LongState × Then = next_offered w (record sent { number = sent.number + 1 }) (world_step w.inner (Send (part_of sent.message (sent.number + 1)))) in
    let last : LongState × Then = (record w { outstanding = None; acknowledged = w.acknowledged + 1 }, Finished) in
    elim (nat_lt (sent.number + 1) (part_count (length sent.message))) as (λ (b : Bool). ThenTells w (cond b next last)) [
      | true ↦ record { whole = none w.whole; taken = refl; acknowledged = omega arith }
      | false ↦ record { whole = none w.whole; taken = refl; acknowledged = omega arith }
    ]

delivered-tells : (w : LongState) (x : Joining × Joined) → ThenTells w (after_delivered w x)
unfolding after_delivered
delivered-tells w (j, JoinedWhole message) = record { whole = refl; taken = refl; acknowledged = omega arith }
delivered-tells w x = record { whole = none w.whole; taken = refl; acknowledged = omega arith }

kind-tells : (kind : StepKind) (w : LongState) → ThenTells w (after_kind kind w)
unfolding after_kind
kind-tells (Acknowledged number) w = acknowledged-tells w.outstanding w
kind-tells (Delivered number message) w = delivered-tells w (message_taken w.joining message)
kind-tells kind w = record { whole = none w.whole; taken = refl; acknowledged = omega arith }

-- ---- each event

first-tells : (event : Event) (w : LongState) (step : Step) (y : LongState × Then) → ThenTells w y → Tells (Inner event) w (with_first step y)
first-tells event w step y t = record { whole = t.whole; taken = t.taken ∙ none w.taken; acknowledged = t.acknowledged }

inner-tells : (event : Event) (w : LongState) (inner : WorldState) (step : Step) → Tells (Inner event) w (inner_happened w (inner, step))
unfolding inner_happened
inner-tells event w inner step =
    let now : LongState = record w { inner = inner } in
    elim (nat_lt (length w.inner.delivery.outbound.marks) (length inner.delivery.outbound.marks)) as (λ (b : Bool).
    Tells (Inner event) w (with_first step (cond b (session_ended now) (after_kind step.kind now)))) [
      | true ↦ record { whole = none w.whole; taken = none w.taken; acknowledged = omega arith }
      | false ↦ let t = kind-tells step.kind now in first-tells event w step (after_kind step.kind now) (record { whole = t.whole; taken = t.taken; acknowledged = t.acknowledged })
    ]

beside-tells : (out : Outstanding) (w : LongState) (message : List ℕ) → Tells (Long message) w (long_offered_beside out w message)
unfolding long_offered_beside started
beside-tells Nothing w message = record { whole = none w.whole; taken = refl; acknowledged = omega arith }
beside-tells out w message = record { whole = none w.whole; taken = none w.taken; acknowledged = omega arith }

offer-tells : (w : LongState) (message : List ℕ) → Tells (Long message) w (long_offered w message)
unfolding long_offered
offer-tells w message =
    let sender = w.inner.delivery.outbound.sender in
    elim sender.down as (λ (b : Bool). Tells (Long message) w (cond b (unmoved w Down) (long_offered_beside sender.outstanding w message))) [
      | true ↦ record { whole = none w.whole; taken = none w.taken; acknowledged = omega arith }
      | false ↦ beside-tells sender.outstanding w message
    ]

step-tells : (w : LongState) (event : LongEvent) → Tells event w (long_step w event)
unfolding long_step
step-tells w (Long message) = offer-tells w message
step-tells w (Inner event) = let x = world_step w.inner event in inner-tells event w x.0 x.1

-- The additions of a run are those of its steps.

pub run-whole : (events : List LongEvent) (w : LongState) → (long_run w events).whole ≡ w.whole ++ whole_in (long_steps_of w events)
unfolding run_by steps_by whole_in
run-whole [] w = none w.whole
run-whole (event ∷ events) w =
    let x = long_step w event in
    run-whole events x.0
    ∙ ap (λ (ms : List (List ℕ)). ms ++ whole_in (long_steps_of x.0 events)) (step-tells w event).whole
    ∙ append_assoc w.whole (whole_by x.1.then) (whole_in (long_steps_of x.0 events))

pub run-taken : (events : List LongEvent) (w : LongState) → (long_run w events).taken ≡ w.taken ++ taken_in events (long_steps_of w events)
unfolding run_by steps_by taken_in
run-taken [] w = none w.taken
run-taken (event ∷ events) w =
    let x = long_step w event in
    run-taken events x.0
    ∙ ap (λ (ms : List (List ℕ)). ms ++ taken_in events (long_steps_of x.0 events)) (step-tells w event).taken
    ∙ append_assoc w.taken (taken_by event x.1.then) (taken_in events (long_steps_of x.0 events))

pub run-finished : (events : List LongEvent) (w : LongState) → (long_run w events).acknowledged ≡ w.acknowledged + finished_in (long_steps_of w events)
unfolding run_by steps_by
run-finished [] w = omega arith
run-finished (event ∷ events) w =
    let x = long_step w event in
    let more = sum_by-cons (λ (s : LongStep). cond (is_finished s.then) 1 0) x.1 (long_steps_of x.0 events) in
    omega (arith, run-finished events x.0, (step-tells w event).acknowledged, more)
