-- Each step of a world of long messages makes its history one event longer; and the consequences of its history.
use Rattle.std.proofs.Common.{◌≡◌, ℕ, ◌≤◌, Bool, false, ◌||◌, length, List, [], ◌∷◌, ◌++◌, refl, sym, ap, subst, ◌∙◌}
use Rattle.p25_delivery.specs.{Orderly.{AreOrderly, AreWhole}, Runs.{run_by, EachIs}}
use Rattle.p25_delivery.proofs.RunLaws.{run-append}
use Rattle.p25_stations.specs.{WorldState.{WorldState}, Runs.{AreClean}, declared.step.Event.TheVariants.{Send}}
use Rattle.p25_stations.proofs.{FalsePassLaws.{clean-from_none, none-from_clean}, HistoryLaws.{each-append}}
use Rattle.p25_fragments.specs.{LongState.{LongState, first_long, long_delivery}, declared.long_step.LongEvent.TheVariants.{Long, Inner}}
use Rattle.p25_fragments.specs.LongRuns.{HasLongHistory, IsCleanLongRun, IsEventOf, IsLongEvent, IsNoOffer, LongEvent, LongStep, long_run, long_sessions_of, long_step, offers_beside}
use Rattle.p25_fragments.proofs.{InnerRunLaws.{inner-run}, LongRunLaws.{long-orderly}, OrderLaws.{run-whole}}

-- the inner world counts its false passes: none is counted exactly if the run is clean

pub long-clean : (events : List LongEvent) → (long_run first_long events).inner.false_passes ≡ 0 → IsCleanLongRun events
long-clean events none =
    let run = inner-run first_long events in
    subst AreClean run.steps (clean-from_none run.events (cc))

pub long-none : (events : List LongEvent) → IsCleanLongRun events → (long_run first_long events).inner.false_passes ≡ 0
long-none events clean =
    let run = inner-run first_long events in
    cc (none-from_clean run.events (rw run.steps clean))

-- the laws hold for an event that offers no message to the inner world, if a long message has at most 4,000 octets
pub event-kept : (event : LongEvent) → ((message : List ℕ) → event ≡ Long message → length message ≤ 4000) → IsEventOf (offers_beside event) event
unfolding IsLongEvent IsNoOffer
event-kept (Long message) short = short message refl
event-kept (Inner (Send message)) short = tt
event-kept event short = tt

-- a world before its first step has a history
pub history_first : HasLongHistory first_long false
unfolding run_by EachIs
history_first = record { events = []; kept = λ none. tt; run = refl }

-- a world after a step has one, if the world before it has
pub history-step : (w next : LongState) (beside offers : Bool) (event : LongEvent) (step : LongStep)
    → HasLongHistory w beside → IsEventOf offers event → (next, step) ≡ long_step w event → HasLongHistory next (beside || offers)
unfolding run_by EachIs
history-step w next false false event step before is now =
    record {
      events = before.events ++ event ∷ [];
      kept = λ none. each-append IsLongEvent before.events (event ∷ []) (before.kept refl) (is, tt);
      run = run-append long_step first_long before.events (event ∷ []) ∙ ap (λ (v : LongState). (long_step v event).0) before.run ∙ ap (λ (x : LongState × LongStep). x.0) (sym now);
    }
history-step w next beside offers event step before is now =
    record {
      events = before.events ++ event ∷ [];
      kept = λ none. absurd (cc);
      run = run-append long_step first_long before.events (event ∷ []) ∙ ap (λ (v : LongState). (long_step v event).0) before.run ∙ ap (λ (x : LongState × LongStep). x.0) (sym now);
    }

pub history-next : (w next : LongState) (beside now : Bool) (event : LongEvent) (step : LongStep) → HasLongHistory w beside → IsEventOf (offers_beside event) event → (next, step) ≡ long_step w event
    → now ≡ (beside || offers_beside event) → HasLongHistory next now
history-next w next beside now event step before is told same =
    rw same (history-step w next beside (offers_beside event) event step before is told)

pub history-orderly : (w : LongState) (beside : Bool) → HasLongHistory w beside → beside ≡ false → w.inner.false_passes ≡ 0 → AreOrderly (long_sessions_of w)
history-orderly w beside h own none =
    let clean = long-clean h.events (cc) in
    rw h.run at (long-orderly h.events (h.kept own) clean)

pub history-whole : (w : LongState) (beside : Bool) → HasLongHistory w beside → AreWhole (long_delivery w)
history-whole w beside h = rw h.run at (run-whole h.events)
