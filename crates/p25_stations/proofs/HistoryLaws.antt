-- Each step of a world makes its history one event longer.
use Rattle.std.proofs.Common.{◌≡◌, ℕ, List, [], ◌∷◌, ◌++◌, refl, sym, ap, subst, ◌∙◌}
use Rattle.p25_delivery.specs.{Delivery.{sessions_of}, Facts.{DeliveryFacts}, Orderly.{AreCounted, AreOrderly, AreWhole}, Runs.{run_by, EachIs}, SoundHalves.{IsMessage}}
use Rattle.p25_delivery.proofs.RunLaws.{run-append}
use Rattle.p25_stations.specs.{Steps.{Event, Send, Step, WorldState, first_world, world_step}, Runs.{HasHistory, IsCleanRun, IsEvent}}
use Rattle.p25_stations.proofs.{CleanLaws.{run-orderly, run-facts, run-counted, run-whole}, FalsePassLaws.{clean-from_none}}

-- a condition on each entry of two lists holds for each of both together
pub each-append : {X : Type 0} (Is : X → Type 0) (xs ys : List X) → EachIs Is xs → EachIs Is ys → EachIs Is (xs ++ ys)
unfolding EachIs
each-append Is [] ys first second = second
each-append Is (x ∷ xs) ys first second = (first.0, each-append Is xs ys first.1 second)

-- the laws hold for an event if they hold for the message that it sends
pub event-kept : (event : Event) → ((message : List ℕ) → event ≡ Send message → IsMessage message) → IsEvent event
unfolding IsEvent
event-kept (Send message) sends = sends message refl
event-kept event sends = tt

-- a world before its first step has a history
pub history_first : HasHistory first_world
unfolding run_by EachIs
history_first = record { events = []; kept = tt; run = refl }

-- a world after a step has one, if the world before it has
pub history-step : (w next : WorldState) (event : Event) (step : Step) → HasHistory w → IsEvent event → (next, step) ≡ world_step w event → HasHistory next
unfolding run_by EachIs
history-step w next event step before kept now =
    record {
      events = before.events ++ event ∷ [];
      kept = each-append IsEvent before.events (event ∷ []) before.kept (kept, tt);
      run = run-append world_step first_world before.events (event ∷ []) ∙ ap (λ (v : WorldState). (world_step v event).0) before.run ∙ ap (λ (x : WorldState × Step). x.0) (sym now);
    }

-- if no false pass is counted, the history is clean
history-clean : (w : WorldState) (h : HasHistory w) → w.false_passes ≡ 0 → IsCleanRun h.events
history-clean w h none = clean-from_none h.events (cc)

pub history-facts : (w : WorldState) → HasHistory w → w.false_passes ≡ 0 → DeliveryFacts w.delivery
history-facts w h none = rw h.run at (run-facts h.events h.kept (history-clean w h none))

pub history-orderly : (w : WorldState) → HasHistory w → w.false_passes ≡ 0 → AreOrderly (sessions_of w.delivery)
history-orderly w h none = rw h.run at (run-orderly h.events h.kept (history-clean w h none))

pub history-counted : (w : WorldState) → HasHistory w → AreCounted (sessions_of w.delivery)
history-counted w h = rw h.run at (run-counted h.events)

pub history-whole : (w : WorldState) → HasHistory w → AreWhole w.delivery
history-whole w h = rw h.run at (run-whole h.events)
