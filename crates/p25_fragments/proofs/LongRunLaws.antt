-- A clean run keeps the long messages matched to the delivery, and refuses no part. One event after the other.
use Rattle.std.proofs.Common.{◌≡◌, ◌≢◌, ℕ, ◌≤◌, Bool, false, List, [], ◌∷◌, ◌++◌, length, Option, Some, refl, ap, sym, subst, ◌∙◌, arith, append_assoc}
use Rattle.p25_messages.specs.{LongMessages.{part_of}, declared.step_kind.StepKind.{StepKind}}
use Rattle.p25_delivery.specs.{Runs.{run_by, steps_by, EachIs}, declared.sender.Outstanding.TheVariants.{Nothing, Message}, Delivery.{Delivery, Session, last_mark, Happening, Time_up}}
use Rattle.p25_delivery.specs.Orderly.{IsClean, IsOrderly, AreOrderly}
use Rattle.p25_delivery.proofs.{DeliveryLaws.{happens-kept, first-kept}, SessionLaws.{divided-sent, present-sent}}
use Rattle.p25_stations.specs.{declared.step.Event.{Event}, declared.step.Event.TheVariants.{Send}, declared.step.Step.{Step}, WorldState.{WorldState}, Steps.{world_step}, Runs.{IsEvent, AreClean}}
use Rattle.p25_stations.proofs.{StepLaws.{HasHappen, offers, IsQuiet, nothing, Does, rests, does, step-does}, CleanLaws.{happening-clean}}
use Rattle.p25_fragments.specs.{declared.long_step.LongEvent.{LongEvent}, declared.long_step.LongEvent.TheVariants.{Long, Inner}, declared.long_step.Then.{Then}}
use Rattle.p25_fragments.specs.{declared.long_step.Then.TheVariants.{Busy, Down, Refused}, LongState.{LongState, long_delivery, first_long}}
use Rattle.p25_fragments.specs.LongSteps.{unmoved, started, long_offered, inner_happened, long_step}
use Rattle.p25_fragments.specs.LongRuns.{IsNoOffer, IsLongEvent, AreLongEvents, long_run, long_steps_of, first_steps, next_steps, inner_steps, IsCleanLongRun, AreUnrefused, long_sessions_of}
use Rattle.p25_fragments.proofs.{JoinLaws.{joined-none}, OfferLaws.{OfferedAs, told_down, told_busy, told_taken, offered-as}}
use Rattle.p25_fragments.proofs.{MoveLaws.{IsPlainKind, outstanding_in, moves_nothing, IsNoOffering, happens-moves}, MatchLaws.{not_yet, IsIdleLong, MatchesBy, matches-at, matches-from}}
use Rattle.p25_fragments.proofs.{FollowsLaws.{present, Follows, FollowsStep, sessions-orderly}, LongStepLaws.{offered-to, moved-follows}}

-- A long message is offered.

-- it is taken, and its part 0 is outstanding
started-follows : (w : LongState) (message : List ℕ) → Follows w → length message ≤ 4000 → outstanding_in w.inner.delivery ≡ Nothing → w.inner.delivery.outbound.sender.down ≡ false →
    FollowsStep (started w message (world_step w.inner (Send (part_of message 0))))
unfolding started MatchesBy
started-follows w message f short o up =
    let x = world_step w.inner (Send (part_of message 0)) in
    let now = (started w message x).0 in
    let m : IsIdleLong w.outstanding w.joining (present w) = matches-at w.inner.delivery Nothing w.outstanding w.joining (present w) o f.matches in
    let offer = offered-to w.inner message 0 f.kept o up in
    let more = present-sent (long_delivery w) message f.divided.0 in
    let matches = matches-from x.0.delivery (Message (part_of message 0)) (Some (record { message = message; number = 0 })) w.joining (present now) offer.outstanding (record {
      of = record {
        message = message;
        number = 0;
        earlier = (present w).sent;
        out_is = refl;
        part_is = refl;
        short = short;
        below = omega arith;
        sent_is = ap (λ (p : Session). p.sent) more;
        acknowledged_is = ap (λ (p : Session). p.acknowledged) more ∙ m.acknowledged_is;
      };
      came = not_yet offer.counted (ap (λ (p : Session). p.delivered) more ∙ m.whole_is) (m.joining_is ∙ joined-none message);
    }) in
    record { follows = record { kept = offer.kept; divided = divided-sent IsOrderly (long_delivery w) message f.divided; matches = matches }; unrefused = λ q. absurd (cc) }

unmoved-follows : (w : LongState) (told : Then) → told ≢ Refused → Follows w → FollowsStep (unmoved w told)
unmoved-follows w told t f = record { follows = f; unrefused = t }

offered-follows : (w : LongState) (message : List ℕ) (x : WorldState × Step)
    → Follows w → length message ≤ 4000 → x ≡ world_step w.inner (Send (part_of message 0)) → OfferedAs w message x → FollowsStep (long_offered w message)
offered-follows w message x f short i (told_down y e) = rw e (unmoved-follows w Down (λ q. absurd (cc)) f)
offered-follows w message x f short i (told_busy y e) = rw e (unmoved-follows w Busy (λ q. absurd (cc)) f)
offered-follows w message x f short i (told_taken number blocks k d o e) = rw (e, i) (started-follows w message f short o d)

-- An event of the inner world.

no-offering : (delivery : Delivery) (event : Event) (false_pass : Bool) (happening : Happening) → HasHappen delivery event false_pass happening → IsNoOffer event → IsNoOffering happening
unfolding IsNoOffer IsNoOffering
no-offering delivery event false_pass happening (offers message) is = is
no-offering delivery event false_pass happening other is = tt

no-offer-event : (event : Event) → IsNoOffer event → IsEvent event
unfolding IsNoOffer IsEvent
no-offer-event (Send message) is = absurd is
no-offer-event event is = tt

quiet-plain : (kind : StepKind) → IsQuiet kind → IsPlainKind kind
unfolding IsPlainKind
quiet-plain kind (nothing way) = tt
quiet-plain kind other = tt

does-follows : (w : LongState) (event : Event) (x : WorldState × Step) → Follows w → IsNoOffer event → x.1.false_pass ≡ false → Does w.inner event x → FollowsStep (inner_happened w x)
unfolding IsClean
does-follows w event x f is c (rests kind quiet) = moved-follows w _ _ Time_up f f.kept tt (moves_nothing (quiet-plain kind quiet) refl refl refl)
does-follows w event x f is c (does happening false_pass has) =
    let delivery = w.inner.delivery in
    let clean = happening-clean delivery event false_pass happening has (no-offer-event event is) c in
    moved-follows w _ _ happening f (happens-kept delivery happening f.kept clean) clean (happens-moves delivery happening (no-offering delivery event false_pass happening has is))

-- Every event.

first-clean : (step : Step) (steps : List Step) → AreClean (first_steps (Some step) ++ steps) → step.false_pass ≡ false
unfolding EachIs first_steps
first-clean step steps c = c.0

inner-first : (w : LongState) (x : WorldState × Step) → (inner_happened w x).1.first ≡ Some x.1
unfolding inner_happened
inner-first w (inner, step) = refl

step-follows : (w : LongState) (event : LongEvent) (rest : List Step) → Follows w → IsLongEvent event →
    AreClean ((first_steps (long_step w event).1.first ++ next_steps (long_step w event).1.then) ++ rest) → FollowsStep (long_step w event)
unfolding IsLongEvent long_step
step-follows w (Long message) rest f is clean = offered-follows w message (world_step w.inner (Send (part_of message 0))) f is refl (offered-as w message)
step-follows w (Inner event) rest f is clean =
    let x = world_step w.inner event in
    let y = inner_happened w x in
    let c = rw (inner-first w x) at clean in
    let d = subst AreClean (append_assoc (first_steps (Some x.1)) (next_steps y.1.then) rest) c in
    does-follows w event x f is (first-clean x.1 (next_steps y.1.then ++ rest) d) (step-does w.inner event)

-- Every run.

clean-rest : (xs ys : List Step) → AreClean (xs ++ ys) → AreClean ys
unfolding EachIs
clean-rest [] ys c = c
clean-rest (x ∷ xs) ys c = clean-rest xs ys c.1

pub record FollowsRun (w : LongState) (events : List LongEvent) : Type 0 where
  pub follows : Follows (long_run w events)
  pub unrefused : AreUnrefused (long_steps_of w events)

run-follows : (events : List LongEvent) (w : LongState) → Follows w → AreLongEvents events → AreClean (inner_steps (long_steps_of w events)) → FollowsRun w events
unfolding EachIs run_by steps_by inner_steps
run-follows [] w f are clean = record { follows = f; unrefused = tt }
run-follows (event ∷ events) w f are clean =
    let step = (long_step w event).1 in
    let rest = inner_steps (long_steps_of (long_step w event).0 events) in
    let here = step-follows w event rest f are.0 clean in
    let there = run-follows events (long_step w event).0 here.follows are.1 (clean-rest (first_steps step.first ++ next_steps step.then) rest clean) in
    record { follows = there.follows; unrefused = (here.unrefused, there.unrefused) }

first-follows : Follows first_long
unfolding MatchesBy last_mark
first-follows = record { kept = first-kept; divided = first-kept.divided; matches = record { out_is = refl; joining_is = refl; whole_is = refl; acknowledged_is = refl } }

from-first : (events : List LongEvent) → AreLongEvents events → IsCleanLongRun events → FollowsRun first_long events
from-first events are clean = run-follows events first_long first-follows are clean

pub long-orderly : (events : List LongEvent) → AreLongEvents events → IsCleanLongRun events → AreOrderly (long_sessions_of (long_run first_long events))
long-orderly events are clean = sessions-orderly (long_run first_long events) (from-first events are clean).follows

pub long-unrefused : (events : List LongEvent) → AreLongEvents events → IsCleanLongRun events → AreUnrefused (long_steps_of first_long events)
long-unrefused events are clean = (from-first events are clean).unrefused
