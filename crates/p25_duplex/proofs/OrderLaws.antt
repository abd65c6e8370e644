-- The sessions of each side's messages make up its lists: in every run, clean or not, the marks of both deliveries are in order. An event happens at
-- one of the two deliveries, and leaves the marks and the lists of the other unchanged.
use Rattle.std.proofs.Common.{◌≡◌, Bool, true, false, List, Result, Ok, Err}
use Rattle.p25_packet_blocks.specs.declared.packet.Packet.{Packet}
use Rattle.p25_messages.specs.declared.step_kind.{StepKind.{StepKind}, Way.TheVariants.{Packets}}
use Rattle.p25_delivery.specs.{Delivery.{Offering, Time_up, Opening_again, Data_heard, Answer_heard, with_outbound, with_inbound, happens}, Orderly.{AreWhole}}
use Rattle.p25_delivery.proofs.{WholeLaws.{IsInOrder, first-in-order, happens-in-order, sessions-whole}, RunLaws.{run-keeps_all}}
use Rattle.p25_stations.specs.Steps.{delivery_of}
use Rattle.p25_duplex.specs.{declared.side.Side.{Side}, declared.side.Side.TheVariants.{A, B}, declared.event.DuplexEvent.{DuplexEvent}}
use Rattle.p25_duplex.specs.declared.event.DuplexEvent.TheVariants.{Send, Timeout, Reopen, Deliver}
use Rattle.p25_duplex.specs.DuplexSteps.{DuplexState, StationState, after_step, delivered_at, delivery_between, duplex_step, heard_as, is_answer, other_side, station_at, station_step}
use Rattle.p25_duplex.specs.DuplexRuns.{delivery_at, duplex_run, first_duplex}

-- the deliveries of both stations' messages
record AreInOrder (mine its : StationState) : Type 0 where
  own : IsInOrder (delivery_between mine its)
  other : IsInOrder (delivery_between its mine)

heard-in-order : (is : Bool) (mine its : StationState) (packet : Packet) → AreInOrder mine its → AreInOrder (heard_as is mine its packet).0 its
unfolding happens with_outbound with_inbound
heard-in-order true mine its packet h = record { own = happens-in-order (delivery_between mine its) (Answer_heard packet) h.own; other = h.other }
heard-in-order false mine its packet h = record { own = h.own; other = happens-in-order (delivery_between its mine) (Data_heard packet) h.other }

delivered-in-order : (mine its : StationState) (x : Result (Packet × Bool) StepKind) → AreInOrder mine its → AreInOrder (delivered_at mine its x).0 its
delivered-in-order mine its (Err kind) h = h
delivered-in-order mine its (Ok (packet, false_pass)) h = heard-in-order (is_answer packet) mine its packet h

station-in-order : (mine its : StationState) (event : DuplexEvent) → AreInOrder mine its → AreInOrder (station_step mine its event).0 its
unfolding happens with_outbound with_inbound
station-in-order mine its (Send side message) h = record { own = happens-in-order (delivery_between mine its) (Offering message) h.own; other = h.other }
station-in-order mine its (Timeout side) h = record { own = happens-in-order (delivery_between mine its) Time_up h.own; other = h.other }
station-in-order mine its (Reopen side) h = record { own = happens-in-order (delivery_between mine its) Opening_again h.own; other = h.other }
station-in-order mine its (Deliver to flips) h = delivered-in-order mine its (delivery_of Packets its.newest flips) h

-- the same of both sides
AreBothInOrder : DuplexState → Type 0
AreBothInOrder d = AreInOrder d.a d.b

side-in-order : (side : Side) (d : DuplexState) (event : DuplexEvent) → AreBothInOrder d
    → AreBothInOrder (after_step side d (station_step (station_at side d) (station_at (other_side side) d) event)).0
unfolding AreBothInOrder
side-in-order A d event h = station-in-order d.a d.b event h
side-in-order B d event h = let now = station-in-order d.b d.a event (record { own = h.other; other = h.own }) in record { own = now.other; other = now.own }

step-in-order : (d : DuplexState) (event : DuplexEvent) → AreBothInOrder d → AreBothInOrder (duplex_step d event).0
unfolding duplex_step
step-in-order d event h = side-in-order _ d event h

pub run-whole : (events : List DuplexEvent) (side : Side) → AreWhole (delivery_at side (duplex_run first_duplex events))
unfolding AreBothInOrder
run-whole events side =
    let w = duplex_run first_duplex events in
    let both : AreInOrder w.a w.b = run-keeps_all duplex_step AreBothInOrder step-in-order events first_duplex (record { own = first-in-order; other = first-in-order }) in
    elim side as (λ (s : Side). AreWhole (delivery_at s w)) [
      | A ↦ sessions-whole (delivery_at A w) both.own
      | B ↦ sessions-whole (delivery_at B w) both.other
    ]
