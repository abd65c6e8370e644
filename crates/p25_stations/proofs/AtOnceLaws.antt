-- The effect of deliveries within the correction radius: a message is taken, delivered and acknowledged, and a sender that is down opens again. By
-- the laws of deliveries, each packet received as transmitted.
use Rattle.std.proofs.{Common.{◌≡◌, ℕ, Bool, true, false, List, [], ◌∷◌, length, Option, Some, None, refl, ap, ap₂, sym, subst, ◌∙◌}, lemmas.Bool.{cond-true}}
use Rattle.std.specs.Prelude.{IfSome}
use Rattle.p25_packet_blocks.specs.{declared.packet.Packet.{Packet}, Sendable.{IsSendable}}
use Rattle.p25_delivery.specs.{Runs.{steps_by, MeetAt}, MessageBlocks.{block_count}, SentPackets.{opening_packet}, Halves.{Sending, Receiving}}
use Rattle.p25_delivery.specs.{SenderRules.{sending_after, sender_heard, opening_number, reopened, is_opening}, ReceiverRules.{receiver_heard}}
use Rattle.p25_delivery.specs.{declared.sender.Outstanding.TheVariants.{Nothing, Opening}, HalfRules.{after_offer, after_reopening, after_data, after_answer}}
use Rattle.p25_delivery.specs.{Delivery.{Delivery, first_delivery, Happening, newest_after, with_outbound, with_inbound, happens, delivery_run}, Orderly.{IsCleanRun as IsCleanDelivery}}
use Rattle.p25_delivery.specs.{AtOnce.{DeliversAtOnce, OpensAtOnce}, SoundHalves.{IsMessage}}
use Rattle.p25_messages.specs.{declared.answers.Offer.{Offer}, declared.answers.Offer.TheVariants.{Taken as OfferTaken}, declared.answers.SenderHeard.{SenderHeard}}
use Rattle.p25_messages.specs.{declared.answers.SenderHeard.TheVariants.{Acknowledged as HeardAck, Opened as SenderOpened}, declared.answers.Reopen.{Reopen as ReopenAnswer}}
use Rattle.p25_messages.specs.{declared.answers.Reopen.TheVariants.{Sent as ReopenSent, Up as ReopenUp}, declared.answers.Heard.{Heard as HeardAnswer}}
use Rattle.p25_messages.specs.{declared.answers.Heard.TheVariants.{Delivered as HeardDelivered, Opened as ReceiverOpened}, declared.step_kind.Way.{Way}}
use Rattle.p25_messages.specs.{declared.step_kind.Way.TheVariants.{Packets, Answers}, declared.step_kind.StepKind.TheVariants.{Taken, Reopened, Delivered, SynHeard, Acknowledged, LinkOpened}}
use Rattle.p25_delivery.proofs.{DeliveryLaws.{run-delivers}, AtOnceLaws.{opens-down}}
use Rattle.p25_stations.specs.{declared.step.Event.{Event}, declared.step.Event.TheVariants.{Send, Reopen, ToReceiver, ToSender}, declared.step.Step.{Step}, declared.air.Carried.{Carried}}
use Rattle.p25_stations.specs.{Air.{ArrivesWithin}, WorldState.{WorldState, first_world}, Steps.{heard_of, delivery_of, quiet_step, counted_when, heard_by, newest_by, delivered, world_step}}
use Rattle.p25_stations.specs.Runs.{IsEvent, AreEvents, world_run, steps_of, IsWithin, AreWithin, true_step}
use Rattle.p25_stations.proofs.{AirLaws.{ReadsWithin, air-within}, SoundLaws.{IsSoundDelivery, step-sound, run-sound, first-sound}, CleanLaws.{from-deliveries}, FalsePassLaws.{clean-from_none}}

-- Three steps.

three-steps : (w v u t : WorldState) (a b c : Event) (x y z : Step) → world_step w a ≡ (v, x) → world_step v b ≡ (u, y) → world_step u c ≡ (t, z) → steps_of w (a ∷ b ∷ c ∷ []) ≡ x ∷ y ∷ z ∷ []
unfolding steps_by
three-steps w v u t a b c x y z e f g =
    let second : (world_step (world_step w a).0 b) ≡ (u, y) = cc in
    let third : world_step (world_step (world_step w a).0 b).0 c ≡ (t, z) = cc in
    cc

-- two deliveries after an event, each at its moment
record Moments (v u : WorldState) (b c : Event) : Type 0 where
  pub first : IsWithin v b
  pub second : IsWithin u c

moments : (w v u : WorldState) (a b c : Event) (x y : Step) → world_step w a ≡ (v, x) → world_step v b ≡ (u, y) → AreWithin w (a ∷ b ∷ c ∷ []) → Moments v u b c
unfolding MeetAt
moments w v u a b c x y e f within =
    let first : (world_step w a).0 ≡ v = cc in
    let second : (world_step (world_step w a).0 b).0 ≡ u = rw (first, f) in
    record { first = rw first at within.1.0; second = rw second at within.1.1.0 }

second-within : (w : WorldState) (a b c : Event) → AreWithin w (a ∷ b ∷ c ∷ []) → IsWithin (world_step w a).0 b
unfolding MeetAt
second-within w a b c within = within.1.0

-- A delivery within the correction radius.

within-step : ReadsWithin → (w : WorldState) (way : Way) (newest : Option Packet) (packet : Packet) (flips : List ℕ)
    → newest ≡ Some packet → IfSome newest IsSendable → IfSome newest (λ sent. ArrivesWithin sent flips) →
    delivered w way (delivery_of way newest flips) ≡ quiet_step w (happens w.delivery (heard_by way packet))
unfolding delivered delivery_of heard_of counted_when
within-step reads w way newest packet flips e sendable within =
    let can = rw e at sendable in
    let arrives = rw e at within in
    cc (air-within reads packet flips can arrives)

data-step : ReadsWithin → (w : WorldState) (packet : Packet) (flips : List ℕ) (x : Receiving × HeardAnswer)
    → IsSoundDelivery w.delivery → w.delivery.packet_sent ≡ Some packet → IsWithin w (ToReceiver flips) →
    receiver_heard w.delivery.inbound.receiver packet ≡ x →
    world_step w (ToReceiver flips) ≡ quiet_step w (with_inbound w.delivery (after_data w.delivery.inbound x))
unfolding world_step newest_by heard_by happens IsWithin
data-step reads w packet flips x sound e within h =
    cc (within-step reads w Packets w.delivery.packet_sent packet flips e sound.packet_sent within)

answer-step : ReadsWithin → (w : WorldState) (packet : Packet) (flips : List ℕ) (x : Sending × SenderHeard)
    → IsSoundDelivery w.delivery → w.delivery.answer ≡ Some packet → IsWithin w (ToSender flips) →
    sender_heard w.delivery.outbound.sender packet ≡ x →
    world_step w (ToSender flips) ≡ quiet_step w (with_outbound w.delivery (after_answer w.delivery.outbound x))
unfolding world_step newest_by heard_by happens IsWithin
answer-step reads w packet flips x sound e within h =
    cc (within-step reads w Answers w.delivery.answer packet flips e sound.answer within)

-- the events are those of any world
to-receiver : (flips : List ℕ) → IsEvent (ToReceiver flips)
unfolding IsEvent
to-receiver flips = tt

reopen-event : IsEvent Reopen
unfolding IsEvent
reopen-event = tt

send-event : (message : List ℕ) → IsMessage message → IsEvent (Send message)
unfolding IsEvent
send-event message is = is

next-sound : (w v : WorldState) (event : Event) (x : Step) → world_step w event ≡ (v, x) → IsEvent event → IsSoundDelivery w.delivery → IsSoundDelivery v.delivery
next-sound w v event x e is sound = rw e at (step-sound w event is sound)

-- A message.

-- a quiet world with stations that deliver at once
delivers : ReadsWithin → (w : WorldState) (message first second : List ℕ)
    → IsSoundDelivery w.delivery → IsMessage message → DeliversAtOnce w.delivery.outbound.sender w.delivery.inbound.receiver message →
    AreWithin w (Send message ∷ ToReceiver first ∷ ToSender second ∷ []) →
    steps_of w (Send message ∷ ToReceiver first ∷ ToSender second ∷ []) ≡
    true_step (Taken w.delivery.outbound.sender.next (block_count (length message)))
    ∷ true_step (Delivered w.delivery.outbound.sender.next message) ∷ true_step (Acknowledged w.delivery.outbound.sender.next) ∷ []
unfolding world_step happens with_outbound with_inbound newest_after after_offer after_data after_answer
delivers reads w message first second sound is d within =
    let number = w.delivery.outbound.sender.next in
    let blocks = block_count (length message) in
    let v = (quiet_step w (with_outbound w.delivery (after_offer w.delivery.outbound message (d.waits, OfferTaken number blocks d.packet)))).0 in
    let u = (quiet_step v (with_inbound v.delivery (after_data v.delivery.inbound (d.after, HeardDelivered number message d.answer)))).0 in
    let t = (quiet_step u (with_outbound u.delivery (after_answer u.delivery.outbound (sending_after number, HeardAck number)))).0 in
    let one : world_step w (Send message) ≡ (v, true_step (Taken number blocks))
    = cc in
    let v_sound : IsSoundDelivery v.delivery = next-sound w v (Send message) (true_step (Taken number blocks)) one (send-event message is) sound in
    let v_within : IsWithin v (ToReceiver first) = subst (λ (p : WorldState). IsWithin p (ToReceiver first))
    (cc) (second-within w (Send message) (ToReceiver first) (ToSender second) within) in
    let two : world_step v (ToReceiver first) ≡ (u, true_step (Delivered number message))
    = data-step reads v d.packet first (d.after, HeardDelivered number message d.answer) v_sound refl v_within d.delivered in
    let m = moments w v u (Send message) (ToReceiver first) (ToSender second) (true_step (Taken number blocks)) (true_step (Delivered number message)) one two within in
    let u_sound : IsSoundDelivery u.delivery = next-sound v u (ToReceiver first) (true_step (Delivered number message)) two (to-receiver first) v_sound in
    let three : world_step u (ToSender second) ≡ (t, true_step (Acknowledged number))
    = answer-step reads u d.answer second (sending_after number, HeardAck number) u_sound refl m.second d.acknowledged in
    three-steps w v u t (Send message) (ToReceiver first) (ToSender second) (true_step (Taken number blocks)) (true_step (Delivered number message)) (true_step (Acknowledged number)) one two three

pub run-delivers_within : ReadsWithin → (events : List Event) (message first second : List ℕ) → AreEvents events → (world_run first_world events).false_passes ≡ 0 → IsMessage message →
    (world_run first_world events).delivery.outbound.sender.outstanding ≡ Nothing →
    AreWithin (world_run first_world events) (Send message ∷ ToReceiver first ∷ ToSender second ∷ []) →
    steps_of (world_run first_world events) (Send message ∷ ToReceiver first ∷ ToSender second ∷ []) ≡
    true_step (Taken (world_run first_world events).delivery.outbound.sender.next (block_count (length message)))
    ∷ true_step (Delivered (world_run first_world events).delivery.outbound.sender.next message) ∷
    true_step (Acknowledged (world_run first_world events).delivery.outbound.sender.next) ∷ []
run-delivers_within reads events message first second are none is quiet within =
    let w = world_run first_world events in
    let at_once = from-deliveries (λ (delivery : Delivery). delivery.outbound.sender.outstanding ≡ Nothing → DeliversAtOnce delivery.outbound.sender delivery.inbound.receiver message)
    (λ (happenings : List Happening) (clean : IsCleanDelivery first_delivery happenings) (nothing : (delivery_run first_delivery happenings).outbound.sender.outstanding ≡ Nothing).
    run-delivers happenings message clean nothing is.short)
    events are (clean-from_none events none) in
    delivers reads w message first second (run-sound events first_world are first-sound) is (at_once quiet) within

-- A reopening.

-- the world after it, whether a message is given up or not
record Opens (w v : WorldState) (number : ℕ) (packet : Packet) (s : Sending) : Type 0 where
  pub step : world_step w Reopen ≡ (v, true_step (Reopened number))
  pub sender : v.delivery.outbound.sender ≡ s
  pub receiver : v.delivery.inbound.receiver ≡ w.delivery.inbound.receiver
  pub newest : v.delivery.packet_sent ≡ Some packet

-- the world after it, by whether the opening packet was outstanding
reopened_world : WorldState → Bool → Sending × ReopenAnswer → WorldState × Step
reopened_world w again x = quiet_step w (with_outbound w.delivery (after_reopening w.delivery.outbound (length w.delivery.inbound.received) again x))

after-opening : (w : WorldState) (again : Bool) (s : Sending) (number : ℕ) (packet : Packet)
    → is_opening w.delivery.outbound.sender.outstanding ≡ again → reopened w.delivery.outbound.sender ≡ (s, ReopenSent number packet) →
    Opens w (reopened_world w again (s, ReopenSent number packet)).0 number packet s
unfolding world_step happens with_outbound newest_after after_reopening reopened_world
after-opening w again s number packet a e = record { step = ap₂ (reopened_world w) a e; sender = refl; receiver = refl; newest = refl }

number-is : (s t : Sending) (number : ℕ) (packet : Packet) → s.down ≡ true → reopened s ≡ (t, ReopenSent number packet) → number ≡ opening_number s.outstanding s.next
unfolding reopened
number-is s t number packet down e =
    let y = opening_number s.outstanding s.next in
    let sent : Sending × ReopenAnswer = (record { next = s.next; outstanding = Opening y; tries = 1; down = false }, ReopenSent y (opening_packet y)) in
    let is : sent ≡ (t, ReopenSent number packet) = cc (cond-true s.down sent (s, ReopenUp) down) in
    let same : ReopenSent y (opening_packet y) ≡ ReopenSent number packet = ap (λ (x : Sending × ReopenAnswer). x.1) is in
    cc

opens : ReadsWithin → (w v : WorldState) (first second : List ℕ)
    → IsSoundDelivery w.delivery → (o : OpensAtOnce w.delivery.outbound.sender w.delivery.inbound.receiver) → Opens w v o.number o.packet o.waits →
    AreWithin w (Reopen ∷ ToReceiver first ∷ ToSender second ∷ []) →
    steps_of w (Reopen ∷ ToReceiver first ∷ ToSender second ∷ []) ≡ true_step (Reopened o.number) ∷ true_step (SynHeard o.number) ∷ true_step (LinkOpened o.number) ∷ []
unfolding with_outbound with_inbound newest_after after_data after_answer
opens reads w v first second sound o h within =
    let number = o.number in
    let u = (quiet_step v (with_inbound v.delivery (after_data v.delivery.inbound (record { last = number; kept = None }, ReceiverOpened number o.answer)))).0 in
    let t = (quiet_step u (with_outbound u.delivery (after_answer u.delivery.outbound (sending_after number, SenderOpened number)))).0 in
    let v_sound : IsSoundDelivery v.delivery = next-sound w v Reopen (true_step (Reopened number)) h.step reopen-event sound in
    let v_within : IsWithin v (ToReceiver first) = rw h.step at (second-within w Reopen (ToReceiver first) (ToSender second) within) in
    let two : world_step v (ToReceiver first) ≡ (u, true_step (SynHeard number))
    = data-step reads v o.packet first (record { last = number; kept = None }, ReceiverOpened number o.answer) v_sound h.newest v_within
    (cc) in
    let m = moments w v u Reopen (ToReceiver first) (ToSender second) (true_step (Reopened number)) (true_step (SynHeard number)) h.step two within in
    let u_sound : IsSoundDelivery u.delivery = next-sound v u (ToReceiver first) (true_step (SynHeard number)) two (to-receiver first) v_sound in
    let three : world_step u (ToSender second) ≡ (t, true_step (LinkOpened number))
    = answer-step reads u o.answer second (sending_after number, SenderOpened number) u_sound refl m.second (cc) in
    three-steps w v u t Reopen (ToReceiver first) (ToSender second) (true_step (Reopened number)) (true_step (SynHeard number)) (true_step (LinkOpened number)) h.step two three

pub run-opens_within : ReadsWithin → (events : List Event) (first second : List ℕ) → AreEvents events → (world_run first_world events).delivery.outbound.sender.down ≡ true →
    AreWithin (world_run first_world events) (Reopen ∷ ToReceiver first ∷ ToSender second ∷ []) →
    (let s = (world_run first_world events).delivery.outbound.sender in
    steps_of (world_run first_world events) (Reopen ∷ ToReceiver first ∷ ToSender second ∷ []) ≡
    true_step (Reopened (opening_number s.outstanding s.next)) ∷ true_step (SynHeard (opening_number s.outstanding s.next)) ∷ true_step (LinkOpened (opening_number s.outstanding s.next)) ∷ [])
run-opens_within reads events first second are down within =
    let w = world_run first_world events in
    let s = w.delivery.outbound.sender in
    let sound = run-sound events first_world are first-sound in
    let o = opens-down s w.delivery.inbound.receiver sound.outbound.sender down in
    let h = after-opening w (is_opening s.outstanding) o.waits o.number o.packet refl o.sent in
    let steps = opens reads w (reopened_world w (is_opening s.outstanding) (o.waits, ReopenSent o.number o.packet)).0 first second sound o h within in
    cc (number-is s o.waits o.number o.packet down o.sent)
