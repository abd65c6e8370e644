-- The relation of the long messages to the delivery after a step: they match it. And the steps without a meaning for them, or that end a session,
-- receive the opening packet or open the session. By the outstanding packet.
use Rattle.std.proofs.{Common.{◌≡◌, ◌≢◌, ℕ, ◌+◌, true, false, [], ◌∷◌, ◌++◌, length, Option, None, refl, ap, sym, subst, ◌∙◌, arith, length-append}, lemmas.Bool.{cond-true, cond-false}}
use Rattle.std.proofs.lemmas.Bool.Decides.{nat_tests}
use Rattle.std.specs.Prelude.{nat_lt}
use Rattle.p25_delivery.specs.{declared.outbound.Mark.{Mark}, declared.sender.Outstanding.{Outstanding}, declared.sender.Outstanding.TheVariants.{Nothing, Message, Opening}}
use Rattle.p25_delivery.specs.{Delivery.{Delivery, Session, present_mark, present_session}, Orderly.{IsOrderly, AreOrderly}}
use Rattle.p25_messages.specs.{declared.step_kind.StepKind.{StepKind}, declared.step_kind.StepKind.TheVariants.{Acknowledged, Delivered, SynHeard}}
use Rattle.p25_delivery.proofs.{SessionLaws.{marked, IsDivided, divided-marked, present-marked}, PhaseLaws.{IsKept, orderly-divided}}
use Rattle.p25_stations.specs.{declared.step.Step.{Step}, WorldState.{WorldState}}
use Rattle.p25_fragments.specs.{declared.long_stations.OutstandingPart.{OutstandingPart}, declared.long_step.Then.{Then}, declared.long_step.Then.TheVariants.{Plain, Refused}}
use Rattle.p25_fragments.specs.{declared.long_step.LongStep.{LongStep}, Joining.{Joining, first_joining}, LongState.{LongState, long_delivery}}
use Rattle.p25_fragments.specs.{LongSteps.{with_first, after_kind, session_ended, inner_happened}, LongRuns.{long_sessions_of}}
use Rattle.p25_fragments.proofs.{MoveLaws.{IsPlainKind, lists_of, outstanding_in, IsSameIn, HasSameLast}, CleanMoveLaws.{IsNoMessage}}
use Rattle.p25_fragments.proofs.MatchLaws.{IsOpeningLong, MatchesBy, Matches, matches-at, matches-from, orderly-matches}

-- the present session of the long messages
abbrev pub present : LongState → Session
present w = present_session (long_delivery w)

-- the delivery is in a phase, the sessions of the long messages that have ended are orderly, and the present one matches the delivery
pub record Follows (w : LongState) : Type 0 where
  pub kept : IsKept w.inner.delivery
  pub divided : IsDivided IsOrderly (long_delivery w)
  pub matches : Matches w.inner.delivery w.outstanding w.joining (present w)

-- a step after which the long messages match, and in which no part is refused
pub record FollowsStep (y : LongState × LongStep) : Type 0 where
  pub follows : Follows y.0
  pub unrefused : y.1.then ≢ Refused

-- and the consequence of a step of the inner world
pub record FollowsThen (y : LongState × Then) : Type 0 where
  pub follows : Follows y.0
  pub unrefused : y.1 ≢ Refused

pub present-orderly : (w : LongState) → Follows w → IsOrderly (present w)
present-orderly w f = orderly-matches (outstanding_in w.inner.delivery) w.inner.delivery.inbound.receiver.last (present_session w.inner.delivery) w.outstanding w.joining (present w) f.matches

pub sessions-orderly : (w : LongState) → Follows w → AreOrderly (long_sessions_of w)
sessions-orderly w f = orderly-divided (long_delivery w) f.divided (present-orderly w f)

-- Whether a session of the inner world has ended.

pub happened-on : (w : LongState) (inner : WorldState) (step : Step) → inner.delivery.outbound.marks ≡ w.inner.delivery.outbound.marks
    → inner_happened w (inner, step) ≡ with_first step (after_kind step.kind (record w { inner = inner }))
unfolding inner_happened
happened-on w inner step e =
    let same = ap length e in
    let test : nat_lt (length w.inner.delivery.outbound.marks) (length inner.delivery.outbound.marks) ≡ false = grind (arith, nat_tests) in
    cc (cond-false _ _ _ test)

pub happened-end : (w : LongState) (inner : WorldState) (step : Step) (mark : Mark) → inner.delivery.outbound.marks ≡ w.inner.delivery.outbound.marks ++ mark ∷ [] →
    inner_happened w (inner, step) ≡ with_first step (session_ended (record w { inner = inner }))
unfolding inner_happened
happened-end w inner step mark e =
    let more : length inner.delivery.outbound.marks ≡ length w.inner.delivery.outbound.marks + 1 = cc (length-append w.inner.delivery.outbound.marks (mark ∷ [])) in
    let test : nat_lt (length w.inner.delivery.outbound.marks) (length inner.delivery.outbound.marks) ≡ true = grind (arith, nat_tests) in
    cc (cond-true _ _ _ test)

pub step-then : (step : Step) (y : LongState × Then) → FollowsThen y → FollowsStep (with_first step y)
step-then step y f = record { follows = f.follows; unrefused = f.unrefused }

-- if no session ended, the consequence is that of the step
pub on : (w : LongState) (inner : WorldState) (step : Step) → inner.delivery.outbound.marks ≡ w.inner.delivery.outbound.marks
    → FollowsThen (after_kind step.kind (record w { inner = inner })) → FollowsStep (inner_happened w (inner, step))
on w inner step e f = rw (happened-on w inner step e) (step-then step (after_kind step.kind (record w { inner = inner })) f)

-- A step that means nothing.

after-plain : (kind : StepKind) (w : LongState) → IsPlainKind kind → after_kind kind w ≡ (w, Plain)
unfolding IsPlainKind after_kind
after-plain (Acknowledged number) w p = absurd p
after-plain (Delivered number message) w p = absurd p
after-plain (SynHeard number) w p = absurd p
after-plain other w p = refl

pub plain-unrefused : Plain ≢ Refused
plain-unrefused e = absurd (cc)

plain-then : (kind : StepKind) (w : LongState) → IsPlainKind kind → Follows w → FollowsThen (after_kind kind w)
plain-then kind w p f = rw (after-plain kind w p) (record { follows = f; unrefused = plain-unrefused })

same-matches : (v u : Delivery) (out : Option OutstandingPart) (j : Joining) (p : Session)
    → IsSameIn v u → HasSameLast v u → present_session u ≡ present_session v → Matches v out j p → Matches u out j p
same-matches v u out j p o l s m =
    let last : MatchesBy (outstanding_in v) u.inbound.receiver.last (present_session v) out j p = rw l m in
    matches-from u (outstanding_in v) out j p o (rw s last)

pub nothing-follows : (w : LongState) (inner : WorldState) (step : Step) → Follows w → IsKept inner.delivery → IsPlainKind step.kind → IsSameIn w.inner.delivery inner.delivery →
    HasSameLast w.inner.delivery inner.delivery → lists_of inner.delivery ≡ lists_of w.inner.delivery →
    FollowsStep (inner_happened w (inner, step))
nothing-follows w inner step f k p o l e =
    on w inner step (ap (λ (v : Delivery). v.outbound.marks) e)
    (plain-then step.kind (record w { inner = inner }) p
    (record { kept = k; divided = f.divided; matches = same-matches w.inner.delivery inner.delivery w.outstanding w.joining (present w) o l (ap present_session e) f.matches }))

-- The session is open.

opened-matches : (v u : Delivery) (out : Option OutstandingPart) (j : Joining) (p : Session) (number : ℕ)
    → outstanding_in v ≡ Opening number → v.inbound.receiver.last ≡ number → outstanding_in u ≡ Nothing → Matches v out j p
    → Matches u out j p
unfolding MatchesBy
opened-matches v u out j p number o l q m =
    let h : IsOpeningLong number v.inbound.receiver.last out j p = matches-at v (Opening number) out j p o m in
    matches-from u Nothing out j p q (record {
      out_is = h.out_is;
      joining_is = h.joining_is l;
      whole_is = cc;
      acknowledged_is = cc;
    })

pub opened-follows : (w : LongState) (inner : WorldState) (step : Step) (number : ℕ) → Follows w → IsKept inner.delivery → IsPlainKind step.kind → outstanding_in w.inner.delivery ≡ Opening number →
    w.inner.delivery.inbound.receiver.last ≡ number → outstanding_in inner.delivery ≡ Nothing →
    lists_of inner.delivery ≡ lists_of w.inner.delivery → FollowsStep (inner_happened w (inner, step))
opened-follows w inner step number f k p o l q e =
    on w inner step (ap (λ (v : Delivery). v.outbound.marks) e)
    (plain-then step.kind (record w { inner = inner }) p (record {
      kept = k;
      divided = f.divided;
      matches = opened-matches w.inner.delivery inner.delivery w.outstanding w.joining (present w) number o l q f.matches;
    }))

-- The opening packet is received.

syn-matches : (o : Outstanding) (last : ℕ) (s : Session) (u : ℕ) (t : Session) (out : Option OutstandingPart) (j : Joining) (p : Session)
    → IsNoMessage o → MatchesBy o last s out j p → MatchesBy o u t out first_joining p
unfolding IsNoMessage MatchesBy
syn-matches Nothing last s u t out j p is m = record { out_is = m.out_is; joining_is = refl; whole_is = m.whole_is; acknowledged_is = m.acknowledged_is }
syn-matches (Message part) last s u t out j p is m = absurd is
syn-matches (Opening number) last s u t out j p is m = record { out_is = m.out_is; session_is = m.session_is; joining_is = λ e. refl }

syn-then : (w : LongState) (kind : StepKind) (number : ℕ) → kind ≡ SynHeard number → Follows (record w { joining = first_joining }) → FollowsThen (after_kind kind w)
unfolding after_kind
syn-then w kind number k f = rw k (record { follows = f; unrefused = plain-unrefused })

pub syn-follows : (w : LongState) (inner : WorldState) (step : Step) (number : ℕ) → Follows w → IsKept inner.delivery → step.kind ≡ SynHeard number → IsNoMessage (outstanding_in w.inner.delivery) →
    IsSameIn w.inner.delivery inner.delivery → lists_of inner.delivery ≡ lists_of w.inner.delivery →
    FollowsStep (inner_happened w (inner, step))
syn-follows w inner step number f k s is o e =
    let v = w.inner.delivery in
    let m = syn-matches (outstanding_in v) v.inbound.receiver.last
    (present_session v) inner.delivery.inbound.receiver.last (present_session inner.delivery) w.outstanding w.joining (present w) is f.matches in
    on w inner step (ap (λ (u : Delivery). u.outbound.marks) e)
    (syn-then (record w { inner = inner }) step.kind number s
    (record { kept = k; divided = f.divided; matches = matches-from inner.delivery (outstanding_in v) w.outstanding first_joining (present w) o m }))

-- A session ends.

pub ended-follows : (w : LongState) (inner : WorldState) (step : Step) (number : ℕ) → Follows w → IsKept inner.delivery → outstanding_in inner.delivery ≡ Opening number →
    (inner.delivery.inbound.receiver.last ≡ number → ⊥) → lists_of inner.delivery ≡ marked (lists_of w.inner.delivery) →
    FollowsStep (inner_happened w (inner, step))
unfolding MatchesBy
ended-follows w inner step number f k o away e =
    let now = session_ended (record w { inner = inner }) in
    let follows : Follows now.0
    = record {
      kept = k;
      divided = divided-marked IsOrderly (long_delivery w) f.divided (present-orderly w f);
      matches = matches-from inner.delivery (Opening number) None w.joining (present now.0) o
          (record { out_is = refl; session_is = present-marked (long_delivery w); joining_is = λ (is : inner.delivery.inbound.receiver.last ≡ number). absurd (away is) });
    } in
    subst FollowsStep (sym (happened-end w inner step (present_mark w.inner.delivery) (ap (λ (v : Delivery). v.outbound.marks) e)))
    (step-then step now (record { follows = follows; unrefused = plain-unrefused }))
