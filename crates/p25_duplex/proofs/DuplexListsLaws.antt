-- Each step adds its message to the lists of its side, and counts one acknowledged if it is Acknowledged: by cases on the results of the halves of
-- that station; and a run by induction.
use Rattle.std.proofs.Common.{◌≡◌, ℕ, ◌+◌, Bool, true, false, ◌&&◌, cond, List, [], ◌∷◌, ◌++◌, length, Option, Some, None, refl, ap, sym, ◌∙◌, arith, append_assoc, append-nil}
use Rattle.std.proofs.lemmas.List.Sums.{sum_by-cons}
use Rattle.p25_packet_blocks.specs.declared.packet.Packet.{Packet}
use Rattle.p25_delivery.specs.{Runs.{run_by, steps_by}, Halves.{Sending, Receiving}, SenderRules.{offered, timed_out, sender_heard, reopened, is_opening}, ReceiverRules.{receiver_heard}}
use Rattle.p25_delivery.specs.{HalfRules.{after_offer, after_timeout, after_reopening, after_data, after_answer}, Delivery.{with_outbound, with_inbound, happens}}
use Rattle.p25_messages.specs.{declared.answers.Offer.{Offer}, declared.answers.Offer.TheVariants.{Taken as OfferTaken}, declared.answers.Resend.{Resend}, declared.answers.Resend.TheVariants.{Sent}}
use Rattle.p25_messages.specs.{declared.answers.SenderHeard.{SenderHeard}, declared.answers.SenderHeard.TheVariants.{Acknowledged as HeardAck}, declared.answers.Reopen.{Reopen as ReopenAnswer}}
use Rattle.p25_messages.specs.{declared.answers.Reopen.TheVariants.{Sent as ReopenSent}, declared.answers.Heard.{Heard as HeardAnswer}}
use Rattle.p25_messages.specs.declared.answers.Heard.TheVariants.{Delivered as HeardDelivered}
use Rattle.p25_stations.specs.{declared.air.Carried.{Carried}, declared.air.Carried.TheVariants.{Heard}, Air.{carried_of}, declared.step.Step.{Step}, Steps.{Packets, delivery_of, heard_of}}
use Rattle.p25_stations.specs.Runs.{delivered_by, is_acknowledged}
use Rattle.p25_duplex.specs.{declared.side.Side.{Side}, declared.side.Side.TheVariants.{A, B}, declared.event.DuplexEvent.{DuplexEvent}}
use Rattle.p25_duplex.specs.{declared.event.DuplexEvent.TheVariants.{Send, Timeout, Reopen, Deliver}, declared.event.DuplexStep.{DuplexStep}}
use Rattle.p25_duplex.specs.DuplexSteps.{DuplexState, StationState, after_receiving, after_sending, after_step, delivered_at, delivery_between, duplex_step, heard_as, is_answer, other_side, side_of, station_at, station_step, station_told}
use Rattle.p25_duplex.specs.DuplexRuns.{duplex_run, duplex_steps, is_side, offered_by, side_acknowledged_in, side_heard_by, side_heard_in, side_sent_by, side_sent_in}

-- the additions of a step to the lists of the station at which it happens
record Tells (event : DuplexEvent) (own : StationState) (x : StationState × Step) : Type 0 where
  pub heard : x.0.inbound.received ≡ own.inbound.received ++ delivered_by x.1.kind
  pub sent : x.0.outbound.sent ≡ own.outbound.sent ++ offered_by event x.1.kind
  pub acknowledged : x.0.outbound.acknowledged ≡ own.outbound.acknowledged + cond (is_acknowledged x.1.kind) 1 0

-- nothing more
none : (messages : List (List ℕ)) → messages ≡ messages ++ []
none messages = sym (append-nil messages)

-- the lists stay as they are, and the step adds nothing
silent : (event : DuplexEvent) (own : StationState) (x : StationState × Step)
    → (x.0.inbound.received ≡ own.inbound.received) × (x.0.outbound.sent ≡ own.outbound.sent) × (x.0.outbound.acknowledged ≡ own.outbound.acknowledged)
    → (delivered_by x.1.kind ≡ []) × (offered_by event x.1.kind ≡ []) × (is_acknowledged x.1.kind ≡ false) → Tells event own x
silent event own x same told =
    record {
      heard = cc (none own.inbound.received);
      sent = cc (none own.outbound.sent);
      acknowledged = omega (arith, same.2, ap (λ (b : Bool). cond {A = ℕ} b 1 0) told.2);
    }

-- ---- the calls of the half that sends

offer-tells : (own other : StationState) (side : Side) (message : List ℕ) (answer : Sending × Offer)
    → Tells (Send side message) own (station_told false (after_sending own (with_outbound (delivery_between own other) (after_offer own.outbound message answer))))
unfolding with_outbound after_offer
offer-tells own other side message (s, OfferTaken number blocks packet) = record { heard = none own.inbound.received; sent = refl; acknowledged = omega arith }
offer-tells own other side message answer = silent (Send side message) own _ (refl, refl, refl) (refl, refl, refl)

timeout-tells : (own other : StationState) (side : Side) (answer : Sending × Resend)
    → Tells (Timeout side) own (station_told false (after_sending own (with_outbound (delivery_between own other) (after_timeout own.outbound answer))))
unfolding with_outbound after_timeout
timeout-tells own other side (s, Sent number tries packet) = silent (Timeout side) own _ (refl, refl, refl) (refl, refl, refl)
timeout-tells own other side answer = silent (Timeout side) own _ (refl, refl, refl) (refl, refl, refl)

reopen-tells : (own other : StationState) (side : Side) (count : ℕ) (again : Bool) (answer : Sending × ReopenAnswer)
    → Tells (Reopen side) own (station_told false (after_sending own (with_outbound (delivery_between own other) (after_reopening own.outbound count again answer))))
unfolding with_outbound after_reopening
reopen-tells own other side count true (s, ReopenSent number packet) = silent (Reopen side) own _ (refl, refl, refl) (refl, refl, refl)
reopen-tells own other side count false (s, ReopenSent number packet) = silent (Reopen side) own _ (refl, refl, refl) (refl, refl, refl)
reopen-tells own other side count again answer = silent (Reopen side) own _ (refl, refl, refl) (refl, refl, refl)

answer-tells : (own other : StationState) (to : Side) (flips : List ℕ) (false_pass : Bool) (answer : Sending × SenderHeard)
    → Tells (Deliver to flips) own (station_told false_pass (after_sending own (with_outbound (delivery_between own other) (after_answer own.outbound answer))))
unfolding with_outbound after_answer
answer-tells own other to flips false_pass (s, HeardAck number) = record { heard = none own.inbound.received; sent = none own.outbound.sent; acknowledged = omega arith }
answer-tells own other to flips false_pass answer = silent (Deliver to flips) own _ (refl, refl, refl) (refl, refl, refl)

-- ---- and of the half that receives

data-tells : (own other : StationState) (to : Side) (flips : List ℕ) (false_pass : Bool) (answer : Receiving × HeardAnswer)
    → Tells (Deliver to flips) own (station_told false_pass (after_receiving own (with_inbound (delivery_between other own) (after_data own.inbound answer))))
unfolding with_inbound after_data
data-tells own other to flips false_pass (r, HeardDelivered number message answer) = record { heard = refl; sent = none own.outbound.sent; acknowledged = omega arith }
data-tells own other to flips false_pass answer = silent (Deliver to flips) own _ (refl, refl, refl) (refl, refl, refl)

-- ---- a delivered packet

heard-tells : (own other : StationState) (to : Side) (flips : List ℕ) (false_pass answers : Bool) (packet : Packet)
    → Tells (Deliver to flips) own (station_told false_pass (heard_as answers own other packet))
unfolding happens
heard-tells own other to flips false_pass true packet = answer-tells own other to flips false_pass (sender_heard own.outbound.sender packet)
heard-tells own other to flips false_pass false packet = data-tells own other to flips false_pass (receiver_heard own.inbound.receiver packet)

carried-tells : (own other : StationState) (to : Side) (flips : List ℕ) (carried : Carried) → Tells (Deliver to flips) own (delivered_at own other (heard_of Packets carried))
unfolding heard_of
carried-tells own other to flips (Heard packet false_pass) = heard-tells own other to flips false_pass (is_answer packet) packet
carried-tells own other to flips carried = silent (Deliver to flips) own _ (refl, refl, refl) (refl, refl, refl)

delivery-tells : (own other : StationState) (to : Side) (flips : List ℕ) (newest : Option Packet) → Tells (Deliver to flips) own (delivered_at own other (delivery_of Packets newest flips))
unfolding delivery_of
delivery-tells own other to flips None = silent (Deliver to flips) own _ (refl, refl, refl) (refl, refl, refl)
delivery-tells own other to flips (Some packet) = carried-tells own other to flips (carried_of packet flips)

station-tells : (own other : StationState) (event : DuplexEvent) → Tells event own (station_step own other event)
unfolding happens
station-tells own other (Send side message) = offer-tells own other side message (offered own.outbound.sender message)
station-tells own other (Timeout side) = timeout-tells own other side (timed_out own.outbound.sender)
station-tells own other (Reopen side) = reopen-tells own other side (length other.inbound.received) (is_opening own.outbound.sender.outstanding) (reopened own.outbound.sender)
station-tells own other (Deliver to flips) = delivery-tells own other to flips other.newest

-- ---- the additions of a step to the lists of each side

record SideTells (side at : Side) (event : DuplexEvent) (d : DuplexState) (x : DuplexState × DuplexStep) : Type 0 where
  pub heard : (station_at side x.0).inbound.received ≡ (station_at side d).inbound.received ++ side_heard_by side x.1
  pub sent : (station_at side x.0).outbound.sent ≡ (station_at side d).outbound.sent ++ cond (is_side side at) (offered_by event x.1.step.kind) []
  pub acknowledged : (station_at side x.0).outbound.acknowledged ≡ (station_at side d).outbound.acknowledged + cond (is_side side x.1.side && is_acknowledged x.1.step.kind) 1 0

after-tells : (side at : Side) (event : DuplexEvent) (d : DuplexState) (y : StationState × Step) → Tells event (station_at at d) y → SideTells side at event d (after_step at d y)
after-tells A B event d y t = record { heard = none d.a.inbound.received; sent = none d.a.outbound.sent; acknowledged = omega arith }
after-tells B A event d y t = record { heard = none d.b.inbound.received; sent = none d.b.outbound.sent; acknowledged = omega arith }
after-tells side at event d y t = record { heard = t.heard; sent = t.sent; acknowledged = t.acknowledged }

step-tells : (side : Side) (d : DuplexState) (event : DuplexEvent) → SideTells side (side_of event) event d (duplex_step d event)
unfolding duplex_step
step-tells side d event =
    let at = side_of event in
    after-tells side at event d (station_step (station_at at d) (station_at (other_side at) d) event) (station-tells (station_at at d) (station_at (other_side at) d) event)

-- The additions of a run are those of its steps.

pub run-heard : (side : Side) (events : List DuplexEvent) (d : DuplexState)
    → (station_at side (duplex_run d events)).inbound.received ≡ (station_at side d).inbound.received ++ side_heard_in side (duplex_steps d events)
unfolding run_by steps_by side_heard_in
run-heard side [] d = none (station_at side d).inbound.received
run-heard side (event ∷ events) d =
    let x = duplex_step d event in
    run-heard side events x.0
    ∙ ap (λ (ms : List (List ℕ)). ms ++ side_heard_in side (duplex_steps x.0 events)) (step-tells side d event).heard
    ∙ append_assoc (station_at side d).inbound.received (side_heard_by side x.1) (side_heard_in side (duplex_steps x.0 events))

pub run-sent : (side : Side) (events : List DuplexEvent) (d : DuplexState)
    → (station_at side (duplex_run d events)).outbound.sent ≡ (station_at side d).outbound.sent ++ side_sent_in side events (duplex_steps d events)
unfolding run_by steps_by side_sent_in
run-sent side [] d = none (station_at side d).outbound.sent
run-sent side (event ∷ events) d =
    let x = duplex_step d event in
    run-sent side events x.0
    ∙ ap (λ (ms : List (List ℕ)). ms ++ side_sent_in side events (duplex_steps x.0 events)) (step-tells side d event).sent
    ∙ append_assoc (station_at side d).outbound.sent (side_sent_by side event x.1) (side_sent_in side events (duplex_steps x.0 events))

pub run-acknowledged : (side : Side) (events : List DuplexEvent) (d : DuplexState) →
    (station_at side (duplex_run d events)).outbound.acknowledged ≡ (station_at side d).outbound.acknowledged + side_acknowledged_in side (duplex_steps d events)
unfolding run_by steps_by
run-acknowledged side [] d = omega arith
run-acknowledged side (event ∷ events) d =
    let x = duplex_step d event in
    let more = sum_by-cons (λ (s : DuplexStep). cond (is_side side s.side && is_acknowledged s.step.kind) 1 0) x.1 (duplex_steps x.0 events) in
    omega (arith, run-acknowledged side events x.0, (step-tells side d event).acknowledged, more)
