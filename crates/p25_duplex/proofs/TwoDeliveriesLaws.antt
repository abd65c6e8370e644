-- The effect of an event at a station on the deliveries of both stations' messages, if it is no false pass: it is an event of at most one of them,
-- and it is clean. By the call, and its transmission.
use Rattle.std.proofs.Common.{◌≡◌, ℕ, Bool, true, false, List, [], ◌∷◌, ◌++◌, length, Option, Some, None, refl, ap, sym, ◌∙◌, subst}
use Rattle.std.specs.Prelude.{if◌then◌else◌}
use Rattle.p25_packet_blocks.specs.declared.packet.Packet.{Packet}
use Rattle.p25_delivery.specs.{Runs.{run_by, MeetAt}, SenderRules.{offered, timed_out, sender_heard, reopened, is_opening}, ReceiverRules.{receiver_heard}, Halves.{Outgoing, Incoming}}
use Rattle.p25_delivery.specs.HalfRules.{after_offer, after_timeout, after_reopening, after_data, after_answer}
use Rattle.p25_delivery.specs.Delivery.{Delivery, first_delivery, Happening, Offering, Time_up, Opening_again, Data_heard, Answer_heard, newest_after, with_outbound, with_inbound, happens, delivery_run}
use Rattle.p25_delivery.specs.{Orderly.{IsTrueTo, IsHeardOf, IsClean, IsCleanRun}, Facts.{DeliveryFacts}}
use Rattle.p25_messages.specs.{declared.step_kind.StepKind.{StepKind}, declared.step_kind.Way.TheVariants.{Packets}}
use Rattle.p25_delivery.proofs.{DeliveryLaws.{facts-kept}, RunLaws.{run-append, meet-append}}
use Rattle.p25_stations.specs.{declared.air.Carried.{Carried}, declared.air.Carried.TheVariants.{Heard}, Air.{carried_of}, Steps.{heard_of, delivery_of}}
use Rattle.p25_stations.proofs.AirLaws.{air-true}
use Rattle.p25_duplex.specs.{declared.event.DuplexEvent.{DuplexEvent}, declared.event.DuplexEvent.TheVariants.{Send, Timeout, Reopen, Deliver}}
use Rattle.p25_duplex.specs.{DuplexSteps.{StationState, is_answer, heard_as, delivered_at, station_step}, DuplexRuns.{IsDuplexEvent, data_in, answer_in}}
use Rattle.p25_duplex.proofs.KindLaws.{IsData, IsAnswer, sent-data, answered-answer, true-kind}

-- Clean runs of a delivery.

-- a delivery to which a clean run leads
pub record IsRunDelivery (w : Delivery) : Type 0 where
  pub happenings : List Happening
  pub clean : IsCleanRun first_delivery happenings
  pub is : delivery_run first_delivery happenings ≡ w

pub first-run : IsRunDelivery first_delivery
unfolding run_by MeetAt
first-run = record { happenings = []; clean = tt; is = refl }

then-run : (w : Delivery) (h : Happening) → IsRunDelivery w → IsClean w h → IsRunDelivery (happens w h).0
unfolding run_by MeetAt
then-run w h r is = record {
  happenings = r.happenings ++ h ∷ [];
  clean = meet-append happens IsClean first_delivery r.happenings (h ∷ []) r.clean (rw r.is is, tt);
  is = cc (run-append happens first_delivery r.happenings (h ∷ []));
}

run-facts : (w : Delivery) → IsRunDelivery w → DeliveryFacts w
run-facts w r = subst DeliveryFacts r.is (facts-kept r.happenings r.clean)

-- The delivery of a station's messages, with the newest data and the newest response of it that were carried.

pub record Newest : Type 0 where
  pub sent : Option Packet
  pub answer : Option Packet

abbrev pub delivering : StationState → StationState → Newest → Delivery
delivering own other n = record { outbound = own.outbound; inbound = other.inbound; packet_sent = n.sent; answer = n.answer }

-- it is one to which a clean run leads, and the packets of it that both directions carry are its newest
pub record IsDeliveryOf (own other : StationState) (n : Newest) : Type 0 where
  pub data_is : newest_after (data_in own.newest) n.sent ≡ n.sent
  pub answer_is : newest_after (answer_in other.newest) n.answer ≡ n.answer
  pub runs : IsRunDelivery (delivering own other n)

-- the deliveries of both stations' messages
abbrev pub AreDeliveries : StationState → StationState → Newest → Newest → Type 0
AreDeliveries mine its n m = IsDeliveryOf mine its n × IsDeliveryOf its mine m

-- the newest after a step
abbrev pub followed : StationState → StationState → Newest → Newest
followed own other n = record { sent = newest_after (data_in own.newest) n.sent; answer = newest_after (answer_in other.newest) n.answer }

abbrev pub AreFollowed : StationState → StationState → Newest → Newest → Type 0
AreFollowed mine its n m = AreDeliveries mine its (followed mine its n) (followed its mine m)

newest-twice : (x y : Option Packet) → newest_after x (newest_after x y) ≡ newest_after x y
unfolding newest_after
newest-twice None y = refl
newest-twice (Some packet) y = refl

follows : (own other : StationState) (n was : Newest) → newest_after (data_in own.newest) n.sent ≡ was.sent
    → newest_after (answer_in other.newest) n.answer ≡ was.answer → IsRunDelivery (delivering own other was) →
    IsDeliveryOf own other (followed own other n)
follows own other n was s a r = record {
  data_is = newest-twice (data_in own.newest) n.sent;
  answer_is = newest-twice (answer_in other.newest) n.answer;
  runs =
      rw (s, a) r;
}

-- nothing happens at a delivery
rests : (own other : StationState) (n : Newest) → IsDeliveryOf own other n → IsDeliveryOf own other (followed own other n)
rests own other n l = follows own other n n l.data_is l.answer_is l.runs

pub stays : (mine its : StationState) (n m : Newest) → AreDeliveries mine its n m → AreFollowed mine its n m
stays mine its n m l = (rests mine its n l.0, rests its mine m l.1)

-- The transmission of a station then is the newest of its direction: data of its own delivery, or a response of the other's.

-- the data, or the responses, that a direction carried, after a packet that is a response or not

abbrev as_data : Option Packet → Packet → Bool → Option Packet
as_data sent packet answer = newest_after (if answer then None else Some packet) sent

abbrev as_answer : Option Packet → Packet → Bool → Option Packet
as_answer newest packet answer = newest_after (if answer then Some packet else None) newest

sends : (mine its : StationState) (n m : Newest) (x : Outgoing × (StepKind × Option Packet)) → AreDeliveries mine its n m → IsRunDelivery (with_outbound (delivering mine its n) x).0 →
    AreFollowed (record mine { outbound = x.0; newest = newest_after x.1.1 mine.newest }) its n m
unfolding with_outbound newest_after
sends mine its n m (o, (kind, None)) l r =
    let after : StationState = record mine { outbound = o } in
    (follows after its n n l.0.data_is l.0.answer_is r, follows its after m m l.1.data_is l.1.answer_is l.1.runs)
sends mine its n m (o, (kind, Some packet)) l r =
    let after : StationState = record mine { outbound = o; newest = Some packet } in
    let now : Newest = record n { sent = Some packet } in
    let kind_is = sent-data (delivering after its now) packet (run-facts _ r) refl in (
      follows after its n now (ap (as_data n.sent packet) kind_is) l.0.answer_is r,
      follows its after m m l.1.data_is (ap (as_answer m.answer packet) kind_is) l.1.runs,
    )

answers : (mine its : StationState) (n m : Newest) (x : Incoming × (StepKind × Option Packet)) → AreDeliveries mine its n m → IsRunDelivery (with_inbound (delivering its mine m) x).0 →
    AreFollowed (record mine { inbound = x.0; newest = newest_after x.1.1 mine.newest }) its n m
unfolding with_inbound newest_after
answers mine its n m (i, (kind, None)) l r =
    let after : StationState = record mine { inbound = i } in
    (follows after its n n l.0.data_is l.0.answer_is l.0.runs, follows its after m m l.1.data_is l.1.answer_is r)
answers mine its n m (i, (kind, Some packet)) l r =
    let after : StationState = record mine { inbound = i; newest = Some packet } in
    let now : Newest = record m { answer = Some packet } in
    let kind_is = answered-answer (delivering its after now) packet (run-facts _ r) refl in (
      follows after its n n (ap (as_data n.sent packet) kind_is) l.0.answer_is l.0.runs,
      follows its after m now l.1.data_is (ap (as_answer m.answer packet) kind_is) r,
    )

-- A station receives a packet that is true to a transmission of the other: to the newest data of the other's delivery, or to the newest response of its own.

heard-data : (own other : StationState) (n : Newest) (sent packet : Packet) → IsDeliveryOf own other n → own.newest ≡ Some sent → IsTrueTo sent packet → IsData packet → IsHeardOf n.sent packet
unfolding newest_after
heard-data own other n sent packet l e t kind_is = record {
  sent = sent;
  newest_is = cc (true-kind sent packet t);
  true_to = t;
}

heard-answer : (own other : StationState) (n : Newest) (sent packet : Packet) → IsDeliveryOf own other n → other.newest ≡ Some sent → IsTrueTo sent packet → IsAnswer packet → IsHeardOf n.answer packet
unfolding newest_after
heard-answer own other n sent packet l e t kind_is = record {
  sent = sent;
  newest_is = cc (true-kind sent packet t);
  true_to = t;
}

hears : (b : Bool) (mine its : StationState) (n m : Newest) (sent packet : Packet) → AreDeliveries mine its n m → its.newest ≡ Some sent → IsTrueTo sent packet → is_answer packet ≡ b →
    AreFollowed (heard_as b mine its packet).0 its n m
unfolding happens with_outbound with_inbound IsClean
hears true mine its n m sent packet l e t b =
    let run = then-run (delivering mine its n) (Answer_heard packet) l.0.runs (heard-answer mine its n sent packet l.0 e t b) in
    sends mine its n m (after_answer mine.outbound (sender_heard mine.outbound.sender packet)) l run
hears false mine its n m sent packet l e t b =
    let run = then-run (delivering its mine m) (Data_heard packet) l.1.runs (heard-data its mine m sent packet l.1 e t b) in
    answers mine its n m (after_data mine.inbound (receiver_heard mine.inbound.receiver packet)) l run

carries : (mine its : StationState) (n m : Newest) (sent : Packet) (flips : List ℕ) (carried : Carried) → AreDeliveries mine its n m → its.newest ≡ Some sent → carried_of sent flips ≡ carried →
    (delivered_at mine its (heard_of Packets carried)).1.false_pass ≡ false → AreFollowed (delivered_at mine its (heard_of Packets carried)).0 its n m
unfolding heard_of
carries mine its n m sent flips (Heard packet false_pass) l e c f =
    hears (is_answer packet) mine its n m sent packet l e (air-true sent flips packet (cc)) refl
carries mine its n m sent flips carried l e c f = stays mine its n m l

delivers : (mine its : StationState) (n m : Newest) (newest : Option Packet) (flips : List ℕ) → AreDeliveries mine its n m → its.newest ≡ newest →
    (delivered_at mine its (delivery_of Packets newest flips)).1.false_pass ≡ false → AreFollowed (delivered_at mine its (delivery_of Packets newest flips)).0 its n m
unfolding delivery_of
delivers mine its n m None flips l e f = stays mine its n m l
delivers mine its n m (Some sent) flips l e f = carries mine its n m sent flips (carried_of sent flips) l e refl f

-- An event at a station.

pub steps : (mine its : StationState) (n m : Newest) (event : DuplexEvent) → AreDeliveries mine its n m → IsDuplexEvent event → (station_step mine its event).1.false_pass ≡ false →
    AreFollowed (station_step mine its event).0 its n m
unfolding happens with_outbound IsClean IsDuplexEvent
steps mine its n m (Send side message) l is f =
    let run = then-run (delivering mine its n) (Offering message) l.0.runs is.short in
    sends mine its n m (after_offer mine.outbound message (offered mine.outbound.sender message)) l run
steps mine its n m (Timeout side) l is f =
    let run = then-run (delivering mine its n) Time_up l.0.runs tt in
    sends mine its n m (after_timeout mine.outbound (timed_out mine.outbound.sender)) l run
steps mine its n m (Reopen side) l is f =
    let run = then-run (delivering mine its n) Opening_again l.0.runs tt in
    let opening = is_opening mine.outbound.sender.outstanding in
    sends mine its n m (after_reopening mine.outbound (length its.inbound.received) opening (reopened mine.outbound.sender)) l run
steps mine its n m (Deliver to flips) l is f = delivers mine its n m its.newest flips l refl f
