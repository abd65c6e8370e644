-- Each step of a duplex world makes its history one event longer; and the consequences of its history.
use Rattle.std.proofs.Common.{◌≡◌, ℕ, List, [], ◌∷◌, ◌++◌, refl, sym, ap, subst, ◌∙◌}
use Rattle.p25_delivery.specs.{Delivery.{sessions_of}, SoundHalves.{IsMessage}, Orderly.{AreOrderly, AreWhole}, Runs.{run_by, EachIs}}
use Rattle.p25_delivery.proofs.RunLaws.{run-append}
use Rattle.p25_stations.proofs.HistoryLaws.{each-append}
use Rattle.p25_duplex.specs.declared.event.DuplexEvent.TheVariants.{Send}
use Rattle.p25_duplex.specs.DuplexRuns.{DuplexEvent, DuplexState, DuplexStep, HasDuplexHistory, HasFacts, IsCleanDuplex, IsDuplexEvent, Side, delivery_after, delivery_at, duplex_step, first_duplex}
use Rattle.p25_duplex.proofs.{CountLaws.{clean-from_none}, OrderLaws.{run-whole}, RunLaws.{run-facts, run-orderly}}

-- the laws hold for an event if they hold for the message that it sends
pub event-kept : (event : DuplexEvent) → ((side : Side) (message : List ℕ) → event ≡ Send side message → IsMessage message) → IsDuplexEvent event
unfolding IsDuplexEvent
event-kept (Send side message) sends = sends side message refl
event-kept event sends = tt

-- a world before its first step has a history
pub history_first : HasDuplexHistory first_duplex
unfolding run_by EachIs
history_first = record { events = []; kept = tt; run = refl }

pub history-step : (d next : DuplexState) (event : DuplexEvent) (step : DuplexStep) → HasDuplexHistory d → IsDuplexEvent event → (next, step) ≡ duplex_step d event → HasDuplexHistory next
unfolding run_by EachIs
history-step d next event step before kept now =
    record {
      events = before.events ++ event ∷ [];
      kept = each-append IsDuplexEvent before.events (event ∷ []) before.kept (kept, tt);
      run = rw (run-append duplex_step first_duplex before.events (event ∷ []), before.run) (ap (λ (x : DuplexState × DuplexStep). x.0) (sym now));
    }

-- if no false pass is counted, the history is clean
history-clean : (d : DuplexState) (h : HasDuplexHistory d) → d.false_passes ≡ 0 → IsCleanDuplex h.events
history-clean d h none = clean-from_none h.events (cc)

pub history-facts : (d : DuplexState) (side : Side) → HasDuplexHistory d → d.false_passes ≡ 0 → HasFacts (delivery_at side d)
history-facts d side h none =
    subst (λ (v : DuplexState). HasFacts (delivery_at side v)) h.run (record {
      delivery = delivery_after side h.events;
      facts = run-facts h.events side h.kept (history-clean d h none);
      outbound = refl;
      inbound = refl;
    })

pub history-orderly : (d : DuplexState) (side : Side) → HasDuplexHistory d → d.false_passes ≡ 0 → AreOrderly (sessions_of (delivery_at side d))
history-orderly d side h none = rw h.run at (run-orderly h.events side h.kept (history-clean d h none))

pub history-whole : (d : DuplexState) (side : Side) → HasDuplexHistory d → AreWhole (delivery_at side d)
history-whole d side h = rw h.run at (run-whole h.events side)
