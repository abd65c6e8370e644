-- The deliveries of both sides' messages in a run without a false pass: one event after the other. So they keep what a clean delivery keeps.
use Rattle.std.proofs.Common.{◌≡◌, false, List, [], ◌∷◌, Option, Some, None, refl, ap, sym, subst}
use Rattle.std.specs.Prelude.{IfSome}
use Rattle.p25_packet_blocks.specs.declared.packet.Packet.{Packet}
use Rattle.p25_delivery.specs.{Runs.{run_by, steps_by, EachIs}, declared.outbound.Mark.{Mark}}
use Rattle.p25_delivery.specs.Delivery.{Delivery, Session, first_delivery, Happening, newest_after, delivery_run, first_mark, session_between, sessions_from, sessions_of}
use Rattle.p25_delivery.specs.{Orderly.{IsCleanRun, AreOrderly}, Facts.{DeliveryFacts}}
use Rattle.p25_delivery.proofs.DeliveryLaws.{facts-kept, sessions-orderly}
use Rattle.p25_duplex.specs.{declared.side.Side.{Side}, declared.side.Side.TheVariants.{A, B}, declared.event.DuplexEvent.{DuplexEvent}, declared.event.DuplexStep.{DuplexStep}}
use Rattle.p25_duplex.specs.DuplexSteps.{other_side, DuplexState, first_station, first_duplex, station_at, delivery_at, side_of, station_step, after_step, duplex_step}
use Rattle.p25_duplex.specs.DuplexRuns.{IsDuplexEvent, AreDuplexEvents, duplex_run, duplex_steps, IsCleanDuplex, data_in, answer_in, newest_in, delivery_after}
use Rattle.p25_duplex.proofs.TwoDeliveriesLaws.{IsRunDelivery, first-run, Newest, IsDeliveryOf, AreDeliveries, followed, AreFollowed, steps}

-- the deliveries of both sides' messages
abbrev AreDeliveriesIn : DuplexState → Newest → Newest → Type 0
AreDeliveriesIn d n m = AreDeliveries d.a d.b n m

abbrev AreFollowedIn : DuplexState → Newest → Newest → Type 0
AreFollowedIn d n m = AreFollowed d.a d.b n m

-- an event at one of them
step-at : (side : Side) (d : DuplexState) (n m : Newest) (event : DuplexEvent) → AreDeliveriesIn d n m → IsDuplexEvent event →
    (station_step (station_at side d) (station_at (other_side side) d) event).1.false_pass ≡ false →
    AreFollowedIn (after_step side d (station_step (station_at side d) (station_at (other_side side) d) event)).0 n m
step-at A d n m event l is f = steps d.a d.b n m event l is f
step-at B d n m event l is f = let next = steps d.b d.a m n event (l.1, l.0) is f in (next.1, next.0)

step-follows : (d : DuplexState) (n m : Newest) (event : DuplexEvent)
    → AreDeliveriesIn d n m → IsDuplexEvent event → (duplex_step d event).1.step.false_pass ≡ false → AreFollowedIn (duplex_step d event).0 n m
unfolding duplex_step
step-follows d n m event l is f = step-at (side_of event) d n m event l is f

-- the delivery of a side's messages after a run, by its newest transmissions before
abbrev delivery_from : Side → Newest → DuplexState → List DuplexEvent → Delivery
delivery_from side n d events =
    record (delivery_at side (duplex_run d events)) { packet_sent = newest_in data_in side n.sent d events; answer = newest_in answer_in (other_side side) n.answer d events }

run-deliveries : (events : List DuplexEvent) (d : DuplexState) (n m : Newest)
    → AreDeliveriesIn d n m → AreDuplexEvents events → EachIs (λ (step : DuplexStep). step.step.false_pass ≡ false) (duplex_steps d events) →
    IsRunDelivery (delivery_from A n d events) × IsRunDelivery (delivery_from B m d events)
unfolding EachIs run_by steps_by newest_in
run-deliveries [] d n m l are clean = (l.0.runs, l.1.runs)
run-deliveries (event ∷ events) d n m l are clean =
    let next = (duplex_step d event).0 in
    run-deliveries events next (followed next.a next.b n) (followed next.b next.a m) (step-follows d n m event l are.0 clean.0) are.1 clean.1

none : Newest
none = record { sent = None; answer = None }

first-deliveries : AreDeliveriesIn first_duplex none none
unfolding none newest_after
first-deliveries = let first : IsDeliveryOf first_station first_station none = record { data_is = refl; answer_is = refl; runs = first-run } in (first, first)

run-at : (events : List DuplexEvent) (side : Side) → AreDuplexEvents events → IsCleanDuplex events → IsRunDelivery (delivery_after side events)
unfolding none
run-at events A are clean = (run-deliveries events first_duplex none none first-deliveries are clean).0
run-at events B are clean = (run-deliveries events first_duplex none none first-deliveries are clean).1

pub run-clean : (events : List DuplexEvent) (side : Side) → AreDuplexEvents events → IsCleanDuplex events →
    (happenings : List Happening) × IsCleanRun first_delivery happenings × (delivery_run first_delivery happenings ≡ delivery_after side events)
run-clean events side are clean = let r = run-at events side are clean in (r.happenings, r.clean, r.is)

pub run-facts : (events : List DuplexEvent) (side : Side) → AreDuplexEvents events → IsCleanDuplex events → DeliveryFacts (delivery_after side events)
run-facts events side are clean = let r = run-at events side are clean in subst DeliveryFacts r.is (facts-kept r.happenings r.clean)

-- the sessions of a delivery are those of its halves
same-sessions : (from : Mark) (marks : List Mark) (w : Delivery) (sent answer : Option Packet)
    → sessions_from from marks (record w { packet_sent = sent; answer = answer }) ≡ sessions_from from marks w
unfolding sessions_from
same-sessions from [] w sent answer = refl
same-sessions from (mark ∷ marks) w sent answer = cc (same-sessions mark marks w sent answer)

pub run-orderly : (events : List DuplexEvent) (side : Side) → AreDuplexEvents events → IsCleanDuplex events → AreOrderly (sessions_of (delivery_at side (duplex_run first_duplex events)))
run-orderly events side are clean =
    let r = run-at events side are clean in
    let w = delivery_at side (duplex_run first_duplex events) in
    let after = delivery_after side events in
    subst AreOrderly (same-sessions first_mark w.outbound.marks w after.packet_sent after.answer)
    (rw r.is at (sessions-orderly r.happenings r.clean))

-- the data, or the response, that a direction carries is the newest that it carried, whatever was received

carries-newest : (o newest : Option Packet) → IfSome o (λ p. newest_after o newest ≡ Some p)
unfolding newest_after
carries-newest None newest = tt
carries-newest (Some packet) newest = refl

newest-carried : (kind : Option Packet → Option Packet) (side : Side) (events : List DuplexEvent) (d : DuplexState) (newest : Option Packet)
    → IfSome (kind (station_at side d).newest) (λ p. newest ≡ Some p) →
    IfSome (kind (station_at side (duplex_run d events)).newest) (λ p. newest_in kind side newest d events ≡ Some p)
unfolding newest_in run_by
newest-carried kind side [] d newest is = is
newest-carried kind side (event ∷ events) d newest is =
    let next = (duplex_step d event).0 in
    let now = kind (station_at side next).newest in
    newest-carried kind side events next (newest_after now newest) (carries-newest now newest)

first-carries : (kind : Option Packet → Option Packet) (side : Side) → kind None ≡ None → IfSome (kind (station_at side first_duplex).newest) (λ p. None ≡ Some p)
first-carries kind A e = rw e tt
first-carries kind B e = rw e tt

pub run-newest : (kind : Option Packet → Option Packet) (side : Side) (events : List DuplexEvent) → kind None ≡ None →
    IfSome (kind (station_at side (duplex_run first_duplex events)).newest) (λ p. newest_in kind side None first_duplex events ≡ Some p)
run-newest kind side events e = newest-carried kind side events first_duplex None (first-carries kind side e)
