-- The inner world of a run of long messages has a run of its own, whose steps are the inner steps. One event after the other, by its rule.
use Rattle.std.proofs.Common.{◌≡◌, ℕ, Bool, true, false, cond, List, [], ◌∷◌, ◌++◌, Option, Some, None, refl, ap, ap₂, sym, subst, ◌∙◌}
use Rattle.std.specs.Prelude.{◌+◌, nat_lt, length}
use Rattle.p25_messages.specs.{LongMessages.{part_count, part_of}, declared.step_kind.StepKind.{StepKind}, declared.step_kind.StepKind.TheVariants.{Acknowledged, Delivered, SynHeard}}
use Rattle.p25_delivery.specs.Runs.{run_by, steps_by}
use Rattle.p25_delivery.proofs.RunLaws.{run-append, steps-append}
use Rattle.p25_stations.specs.{declared.step.Event.{Event}, declared.step.Event.TheVariants.{Send}, declared.step.Step.{Step}, WorldState.{WorldState}, Steps.{world_step}, Runs.{world_run, steps_of}}
use Rattle.p25_fragments.specs.{declared.long_stations.OutstandingPart.{OutstandingPart}, declared.joiner.Joined.{Joined}, declared.joiner.Joined.TheVariants.{Whole as JoinedWhole}}
use Rattle.p25_fragments.specs.{declared.long_step.LongEvent.{LongEvent}, declared.long_step.LongEvent.TheVariants.{Long, Inner}, declared.long_step.Then.{Then}}
use Rattle.p25_fragments.specs.{declared.long_step.Then.TheVariants.{Plain, Busy, Down, Finished}, declared.long_step.LongStep.{LongStep}, Joining.{Joining, message_taken}, LongState.{LongState}}
use Rattle.p25_fragments.specs.LongSteps.{unmoved, started, long_offered, next_offered, after_acknowledged, after_delivered, after_kind, session_ended, inner_happened, long_step}
use Rattle.p25_fragments.specs.LongRuns.{long_run, long_steps_of, first_steps, next_steps, inner_steps, IsInnerRun}
use Rattle.p25_fragments.proofs.OfferLaws.{OfferedAs, told_down, told_busy, told_taken, offered-as}

-- the steps of the inner world in one step
steps_in : LongStep → List Step
steps_in step = first_steps step.first ++ next_steps step.then

no-events : (w : WorldState) → IsInnerRun w w []
unfolding run_by steps_by
no-events w = record { events = []; world = refl; steps = refl }

one-event : (w : WorldState) (event : Event) → IsInnerRun w (world_step w event).0 ((world_step w event).1 ∷ [])
unfolding run_by steps_by
one-event w event = record { events = event ∷ []; world = refl; steps = refl }

-- one run after another
both : (u v w : WorldState) (xs ys : List Step) → IsInnerRun u v xs → IsInnerRun v w ys → IsInnerRun u w (xs ++ ys)
both u v w xs ys a b = record {
  events = a.events ++ b.events;
  world = cc (run-append world_step u a.events b.events);
  steps = cc (steps-append world_step u a.events b.events);
}

-- A long message is offered.

Runs : LongState → LongState × LongStep → Type 0
Runs w y = IsInnerRun w.inner y.0.inner (steps_in y.1)

unmoved-busy : (w : LongState) → Runs w (unmoved w Busy)
unfolding Runs steps_in first_steps next_steps
unmoved-busy w = no-events w.inner

unmoved-down : (w : LongState) → Runs w (unmoved w Down)
unfolding Runs steps_in first_steps next_steps
unmoved-down w = no-events w.inner

started-run : (w : LongState) (message : List ℕ) (event : Event) → Runs w (started w message (world_step w.inner event))
unfolding Runs started steps_in first_steps next_steps
started-run w message event = one-event w.inner event

offered-run : (w : LongState) (message : List ℕ) (x : WorldState × Step) → x ≡ world_step w.inner (Send (part_of message 0)) → OfferedAs w message x → Runs w (long_offered w message)
offered-run w message x i (told_down y e) = rw e (unmoved-down w)
offered-run w message x i (told_busy y e) = rw e (unmoved-busy w)
offered-run w message x i (told_taken number blocks k d o e) = rw (e, i) (started-run w message (Send (part_of message 0)))

-- The consequence of a step of the inner world.

Follow : LongState → LongState × Then → Type 0
Follow w y = IsInnerRun w.inner y.0.inner (next_steps y.1)

acknowledged-run : (out : Option OutstandingPart) (w : LongState) → Follow w (after_acknowledged out w)
unfolding Follow after_acknowledged next_offered next_steps
acknowledged-run None w = no-events w.inner
acknowledged-run (Some sent) w =
    let part = part_of sent.message (sent.number + 1) in
    let next : LongState × Then = next_offered w (record sent { number = sent.number + 1 }) (world_step w.inner (Send part)) in
    let last : LongState × Then = (record w { outstanding = None; acknowledged = w.acknowledged + 1 }, Finished) in
    elim (nat_lt (sent.number + 1) (part_count (length sent.message))) as (λ (b : Bool). Follow w (cond b next last)) [ true ↦ one-event w.inner (Send part) | false ↦ no-events w.inner ]

delivered-run : (w : LongState) (x : Joining × Joined) → Follow w (after_delivered w x)
unfolding Follow after_delivered next_steps
delivered-run w (j, JoinedWhole message) = no-events w.inner
delivered-run w x = no-events w.inner

plain-run : (w : LongState) → Follow w (w, Plain)
unfolding Follow next_steps
plain-run w = no-events w.inner

after-run : (kind : StepKind) (w : LongState) → Follow w (after_kind kind w)
unfolding after_kind Follow next_steps
after-run (Acknowledged number) w = acknowledged-run w.outstanding w
after-run (Delivered number message) w = delivered-run w (message_taken w.joining message)
after-run (SynHeard number) w = no-events w.inner
after-run other w = plain-run w

happened-run : (w : LongState) (event : Event) → Runs w (inner_happened w (world_step w.inner event))
unfolding Runs inner_happened steps_in first_steps next_steps Follow
happened-run w event =
    let x = world_step w.inner event in
    let now : LongState = record w { inner = x.0 } in
    let has_ended = nat_lt (length w.inner.delivery.outbound.marks) (length x.0.delivery.outbound.marks) in
    let y = cond has_ended (session_ended now) (after_kind x.1.kind now) in
    let follow : Follow now y = elim has_ended as (λ (b : Bool). Follow now (cond b (session_ended now) (after_kind x.1.kind now))) [ true ↦ no-events x.0 | false ↦ after-run x.1.kind now ] in
    both w.inner x.0 y.0.inner (x.1 ∷ []) (next_steps y.1) (one-event w.inner event) follow

step-run : (w : LongState) (event : LongEvent) → Runs w (long_step w event)
unfolding long_step
step-run w (Long message) = offered-run w message (world_step w.inner (Send (part_of message 0))) refl (offered-as w message)
step-run w (Inner event) = happened-run w event

-- every run
pub inner-run : (w : LongState) (events : List LongEvent) → IsInnerRun w.inner (long_run w events).inner (inner_steps (long_steps_of w events))
unfolding run_by steps_by inner_steps Runs steps_in
inner-run w [] = no-events w.inner
inner-run w (event ∷ events) =
    let y = long_step w event in
    both w.inner y.0.inner (long_run y.0 events).inner (first_steps y.1.first ++ next_steps y.1.then) (inner_steps (long_steps_of y.0 events)) (step-run w event) (inner-run y.0 events)
