-- A received packet that is true to the transmitted one keeps a delivery in a phase: each phase in turn, by the result of the station there. And so
-- does every event of a clean run.
use Rattle.std.proofs.Common.{◌≡◌, ℕ, ◌+◌, ◌%◌, ◌<◌, ◌≤◌, ◌⊎◌, inl, inr, Bool, true, List, [], ◌∷◌, length, Option, Some, None, refl, ap, sym, ◌∙◌, subst, arith, length-append}
use Rattle.std.proofs.lemmas.Option.{IfSome_then, same_Some}
use Rattle.std.specs.Prelude.{IfSome}
use Rattle.p25_packet_blocks.specs.{declared.packet.Packet.{Packet}, declared.packet.Packet.TheVariants.{Confirmed}}
use Rattle.p25_delivery.specs.{Places.{held_flags}, SentPackets.{ack_packet, retry_packet, opening_packet}, Halves.{Sending, Keeping, Receiving, Outgoing}}
use Rattle.p25_delivery.specs.{SenderRules.{sending_after, sender_heard, opening_number, is_opening}, ReceiverRules.{receiver_heard}}
use Rattle.p25_delivery.specs.{declared.sender.Outstanding.TheVariants.{Nothing, Message, Opening}, HalfRules.{after_reopening, after_data, after_answer}}
use Rattle.p25_delivery.specs.Delivery.{Session, Delivery, first_delivery, last_mark, sessions_of, present_session, first_number, newest_after, with_outbound, with_inbound, Happening, Offering, Time_up, Opening_again, Data_heard, Answer_heard, happens, delivery_run}
use Rattle.p25_delivery.specs.{Facts.{IsDataOf, KeepsOf, DeliveryFacts}, Orderly.{IsTrueTo, IsHeardOf, IsClean, IsCleanRun, IsOrderly, AreOrderly}, AtOnce.{DeliversAtOnce}}
use Rattle.p25_messages.specs.{declared.answers.SenderHeard.{SenderHeard}, declared.answers.SenderHeard.TheVariants.{Acknowledged, Retry, Repeat, Ignored as SenderIgnored, Down as HeardDown}}
use Rattle.p25_messages.specs.{declared.answers.Reopen.{Reopen}, declared.answers.Reopen.TheVariants.{Sent as ReopenSent, Up as ReopenUp}, declared.answers.Heard.{Heard}}
use Rattle.p25_messages.specs.declared.step_kind.StepKind.TheVariants.{Reopened}
use Rattle.p25_delivery.proofs.{SentLaws.{data-heard, opening-packet_heard, ack-heard, retry-heard}, ReceiverLaws.{HearsNext, ignores, keeps, delivers, next-heard, last-heard, opening-is_heard}}
use Rattle.p25_delivery.proofs.SenderLaws.{IsSame, RetriesOf, HearsAnswer, goes_on, stays, HearsOpening, opens, waits, acks, acks-ack, acks-retry, message-answer, opening-answer, quiet-answer, reopen-cases}
use Rattle.p25_delivery.proofs.SessionLaws.{with_delivered, with_acknowledged, one_delivered, one_acknowledged, IsMarked, first-divided, present-delivered, present-acknowledged}
use Rattle.p25_delivery.proofs.EndedLaws.{happens-divided}
use Rattle.p25_delivery.proofs.PhaseLaws.{IsQuietData, IsQuiet, IsWaitingAnswer, IsWaiting, IsArrived, IsBusy, IsOpeningAnswer, IsOpening, IsDelivering, IsDeliveringNow, quiet, busy, opening, IsKept, orderly-delivering, orderly-kept}
use Rattle.p25_delivery.proofs.{FactsLaws.{facts-delivering}, RunLaws.{run-keeps}, AtOnceLaws.{delivers-delivering}}
use Rattle.p25_delivery.proofs.CallLaws.{newest, delivery_of_sender, busy-sender, busy-data, offer-phase, timeout-phase, reopen-phase}

-- a delivery with another receiver, and with another newest response
abbrev delivery_of_answer : Delivery → Receiving → Packet → Delivery
delivery_of_answer w r packet = record w { inbound = record w.inbound { receiver = r }; answer = Some packet }

-- the receiver receives a packet

AfterData : Delivery → Receiving × Heard → Type 0
AfterData w x = IsDeliveringNow (with_inbound w (after_data w.inbound x)).0

quiet-heard : (last b : ℕ) (s : Session) (w : Delivery) (r : Receiving) → IsQuiet last b s w → r.last ≡ last → r.kept ≡ None → IsQuiet last b s (delivery_of_answer w r (ack_packet last))
quiet-heard last b s w r q l k = record {
  up = q.up;
  outstanding = q.outstanding;
  small = q.small;
  last_is = l;
  next = q.next;
  kept = k;
  packet_sent = q.packet_sent;
  answer = refl;
  delivered = q.delivered;
  acknowledged = q.acknowledged;
  counted = q.counted;
}

-- an outstanding message stays outstanding, whether it has arrived or not
busy-place : (number : ℕ) (message : List ℕ) (b : ℕ) (s t : Session) (w v : Delivery)
    → v.outbound.sender ≡ w.outbound.sender → v.packet_sent ≡ w.packet_sent → t.acknowledged ≡ s.acknowledged → IsBusy number message b s w →
    IsWaiting number message t v.inbound.receiver v.answer ⊎ IsArrived number message t v.inbound.receiver v.answer → IsBusy number message b t v
busy-place number message b s t w v sender packet a h place = record {
  next = cc;
  outstanding = cc;
  small = h.small;
  short = h.short;
  packet_sent = rw packet h.packet_sent;
  counted = cc;
  place = place;
}

-- some of its blocks are kept
waiting-kept : (number : ℕ) (message : List ℕ) (s : Session) (r : Receiving) (answered : Option Packet) (kept : Keeping) → IsWaiting number message s r answered → KeepsOf message kept →
    IsWaiting number message s (record { last = r.last; kept = Some kept }) (Some (retry_packet number (held_flags kept.places)))
waiting-kept number message s r answered kept h k = record { last_small = h.last_small; sync = h.sync; kept = k; answer = inr (kept, refl, refl); sent = h.sent; acknowledged = h.acknowledged }

waiting-delivered : (number : ℕ) (message : List ℕ) (s : Session) (r : Receiving) (answered : Option Packet) → IsWaiting number message s r answered →
    IsArrived number message (with_delivered s message) (record { last = number; kept = None }) (Some (ack_packet number))
waiting-delivered number message s r answered h = record { last_is = refl; kept = refl; answer = refl; earlier = s.delivered; sent = h.sent; delivered = sym h.sent; acknowledged = h.acknowledged }

-- or it had arrived before
arrived-again : (number : ℕ) (message : List ℕ) (s : Session) (r : Receiving) (answered : Option Packet)
    → IsArrived number message s r answered → IsArrived number message s r (Some (ack_packet r.last))
arrived-again number message s r answered h = record {
  last_is = h.last_is;
  kept = h.kept;
  answer = ap ack_packet h.last_is;
  earlier = h.earlier;
  sent = h.sent;
  delivered = h.delivered;
  acknowledged = h.acknowledged;
}

opening-heard : (number b : ℕ) (s : Session) (w : Delivery) → IsOpening number b s w → IsOpening number b s (delivery_of_answer w (record { last = number; kept = None }) (ack_packet number))
opening-heard number b s w h = record {
  outstanding = h.outstanding;
  small = h.small;
  last_small = h.small;
  place = inl (refl, refl);
  packet_sent = h.packet_sent;
  answer = inl refl;
  session_is = h.session_is;
  base_is = h.base_is;
}

data-quiet : (last : ℕ) (w : Delivery) (packet : Packet) → IsQuiet last (first_number w) (present_session w) w → IsHeardOf w.packet_sent packet → AfterData w (receiver_heard w.inbound.receiver packet)
unfolding AfterData with_inbound after_data newest_after
data-quiet last w packet q heard =
    let r = w.inbound.receiver in
    let b = first_number w in
    let s = present_session w in
    elim (newest w.packet_sent (IsQuietData last s.sent) heard.sent q.packet_sent heard.newest_is) [
      | inl (none, e) ↦
          (let p = opening-packet_heard last heard.sent packet e heard.true_to in
          rw (p.1, (opening-is_heard r last p.0 q.small p.2)) (quiet last (quiet-heard last b s w (record { last = last; kept = None }) q refl refl)))
      | inr (earlier, message, e, short, d) ↦
          (let p = data-heard last message heard.sent packet q.small short d heard.true_to in
          let again : IsQuiet last b s (delivery_of_answer w r (ack_packet r.last))
          = subst (λ (n : ℕ). IsQuiet last b s (delivery_of_answer w r (ack_packet n))) (sym q.last_is) (quiet-heard last b s w r q q.last_is q.kept) in
          rw (p.1, (last-heard r last message p.0 q.last_is p.2)) (quiet last again))
    ]

data-waiting : (number : ℕ) (message : List ℕ) (w : Delivery) (x : Receiving × Heard)
    → IsMarked w → IsBusy number message (first_number w) (present_session w) w → IsWaiting number message (present_session w) w.inbound.receiver w.answer →
    HearsNext w.inbound.receiver number message x → AfterData w x
unfolding AfterData with_inbound after_data newest_after
data-waiting number message w x m h p (ignores e) = rw e (busy number message h)
data-waiting number message w x m h p (keeps kept k e) =
    let s = present_session w in
    let now = delivery_of_answer w (record { last = w.inbound.receiver.last; kept = Some kept }) (retry_packet number (held_flags kept.places)) in
    rw e (busy number message (busy-place number message (first_number w) s s w now refl refl refl h (inl (waiting-kept number message s w.inbound.receiver w.answer kept p k))))
data-waiting number message w x m h p (delivers e) =
    let s = present_session w in
    let now = delivery_of_answer (one_delivered w message) (record { last = number; kept = None }) (ack_packet number) in
    let arrives = busy-place number message (first_number w) s (with_delivered s message) w now refl refl refl h (inr (waiting-delivered number message s w.inbound.receiver w.answer p)) in
    rw e (busy number message (rw (present-delivered w message m) arrives))

data-busy : (number : ℕ) (message : List ℕ) (w : Delivery) (packet : Packet) → IsMarked w → IsBusy number message (first_number w) (present_session w) w → IsHeardOf w.packet_sent packet →
    IsWaiting number message (present_session w) w.inbound.receiver w.answer ⊎ IsArrived number message (present_session w) w.inbound.receiver w.answer
    → AfterData w (receiver_heard w.inbound.receiver packet)
unfolding AfterData with_inbound after_data newest_after
data-busy number message w packet m h heard place =
    let r = w.inbound.receiver in
    let s = present_session w in
    let d = newest w.packet_sent (IsDataOf number message) heard.sent h.packet_sent heard.newest_is in
    let p = data-heard number message heard.sent packet h.small h.short d heard.true_to in
    rw p.1 (elim place [
      | inl here ↦ data-waiting number message w (receiver_heard r (Confirmed p.0)) m h here (next-heard r number message p.0 here.last_small here.sync here.kept p.2)
      | inr came ↦
          rw (last-heard r number message p.0 came.last_is p.2) (busy number message (busy-place number message (first_number w) s s w (delivery_of_answer w r (ack_packet r.last)) refl refl refl h
          (inr (arrived-again number message s r w.answer came))))
    ])

data-opening : (number : ℕ) (w : Delivery) (packet : Packet)
    → IsOpening number (first_number w) (present_session w) w → IsHeardOf w.packet_sent packet → AfterData w (receiver_heard w.inbound.receiver packet)
unfolding AfterData with_inbound after_data newest_after
data-opening number w packet h heard =
    let r = w.inbound.receiver in
    let both : Some heard.sent ≡ Some (opening_packet number) = cc in
    let p = opening-packet_heard number heard.sent packet (same_Some heard.sent (opening_packet number) both) heard.true_to in
    rw (p.1, (opening-is_heard r number p.0 h.small p.2)) (opening number (opening-heard number (first_number w) (present_session w) w h))

data-phase : (w : Delivery) (packet : Packet) → IsMarked w → IsDeliveringNow w → IsHeardOf w.packet_sent packet → AfterData w (receiver_heard w.inbound.receiver packet)
data-phase w packet m (quiet last q) heard = data-quiet last w packet q heard
data-phase w packet m (busy number message h) heard = data-busy number message w packet m h heard h.place
data-phase w packet m (opening number h) heard = data-opening number w packet h heard

-- the sender receives a packet

AfterAnswer : Delivery → Sending × SenderHeard → Type 0
AfterAnswer w x = IsDeliveringNow (with_outbound w (after_answer w.outbound x)).0

busy-stays : (number : ℕ) (message : List ℕ) (w : Delivery) (x : Sending × SenderHeard)
    → IsBusy number message (first_number w) (present_session w) w → IsSame w.outbound.sender x.0 → RetriesOf number message x.1 → AfterAnswer w x
unfolding AfterAnswer with_outbound after_answer newest_after
busy-stays number message w (t, Retry n wanted tries packet) h e r = busy number message (busy-data number message (first_number w) (present_session w) w t packet h e r)
busy-stays number message w (t, Repeat n tries packet) h e r = busy number message (busy-data number message (first_number w) (present_session w) w t packet h e r)
busy-stays number message w (t, SenderIgnored) h e r = busy number message (busy-sender number message (first_number w) (present_session w) w t h e)
busy-stays number message w (t, HeardDown) h e r = busy number message (busy-sender number message (first_number w) (present_session w) w t h e)
busy-stays number message w x h e r = absurd r

-- the newest response acknowledges no message that has not arrived
waiting-unacknowledged : (number : ℕ) (r : Receiving) (sent packet : Packet)
    → number < 8 → r.last < 8 → (r.last + 1) % 8 ≡ number → IsWaitingAnswer r number sent → IsTrueTo sent packet → acks packet number ≡ true → ⊥
waiting-unacknowledged number r sent packet small last sync (inl e) t a =
    let is : packet ≡ ack_packet r.last = ack-heard r.last sent packet e t ∙ e in
    let yes_to : r.last ≡ number = acks-ack r.last number last (rw is at a) in
    absurd (omega (arith, yes_to, sync, last))
waiting-unacknowledged number r sent packet small last sync (inr (kept, k, e)) t a =
    let is : packet ≡ retry_packet number (held_flags kept.places) = retry-heard number (held_flags kept.places) sent packet e t ∙ e in
    acks-retry number number (held_flags kept.places) small (rw is at a)

arrived-acknowledged : (number : ℕ) (message : List ℕ) (b : ℕ) (s : Session) (w : Delivery) → IsBusy number message b s w → IsArrived number message s w.inbound.receiver w.answer →
    IsQuiet number b (with_acknowledged s) (delivery_of_sender (one_acknowledged w) (sending_after number))
arrived-acknowledged number message b s w h p = record {
  up = refl;
  outstanding = refl;
  small = h.small;
  last_is = p.last_is;
  next = refl;
  kept = p.kept;
  packet_sent = IfSome_then w.packet_sent h.packet_sent (λ (packet : Packet) (d : IsDataOf number message packet). inr (p.earlier, message, p.sent, h.short, d));
  answer = p.answer;
  delivered = p.delivered;
  acknowledged = omega (arith, p.acknowledged, ap length p.sent, length-append p.earlier (message ∷ []));
  counted = omega (arith, h.counted);
}

answer-place : (number : ℕ) (message : List ℕ) (w : Delivery) (packet : Packet)
    → IsMarked w → IsBusy number message (first_number w) (present_session w) w → IsHeardOf w.answer packet → acks packet number ≡ true →
    IsWaiting number message (present_session w) w.inbound.receiver w.answer ⊎ IsArrived number message (present_session w) w.inbound.receiver w.answer
    → AfterAnswer w (sending_after number, Acknowledged number)
unfolding AfterAnswer with_outbound after_answer newest_after
answer-place number message w packet m h heard a (inl p) =
    let sent = newest w.answer (IsWaitingAnswer w.inbound.receiver number) heard.sent p.answer heard.newest_is in
    absurd (waiting-unacknowledged number w.inbound.receiver heard.sent packet h.small p.last_small p.sync sent heard.true_to a)
answer-place number message w packet m h heard a (inr p) =
    let now = delivery_of_sender (one_acknowledged w) (sending_after number) in
    quiet number (rw (present-acknowledged w m) (arrived-acknowledged number message (first_number w) (present_session w) w h p))

answer-busy : (number : ℕ) (message : List ℕ) (w : Delivery) (packet : Packet) (x : Sending × SenderHeard)
    → IsMarked w → IsBusy number message (first_number w) (present_session w) w → IsHeardOf w.answer packet →
    HearsAnswer w.outbound.sender message packet x → AfterAnswer w x
answer-busy number message w packet x m h heard (goes_on a e) =
    let is : x ≡ (sending_after number, Acknowledged number) = cc in
    rw is (answer-place number message w packet m h heard (rw h.next at a) h.place)
answer-busy number message w packet x m h heard (stays t) = busy-stays number message w x h t.0 (rw h.next at t.1)

-- an opening packet is acknowledged only once it has arrived
opened-place : (number b : ℕ) (s : Session) (w : Delivery) (sent packet : Packet)
    → IsOpening number b s w → IsOpeningAnswer w.inbound.receiver.last number sent → IsTrueTo sent packet → acks packet number ≡ true →
    (w.inbound.receiver.last ≡ number) × (w.inbound.receiver.kept ≡ None) × (sent ≡ ack_packet number)
opened-place number b s w sent packet h (inl e) t a =
    let last = w.inbound.receiver.last in
    let is : packet ≡ ack_packet last = ack-heard last sent packet e t ∙ e in
    let here : last ≡ number = acks-ack last number h.last_small (rw is at a) in
    elim h.place [
      | inl p ↦ (here, p.1, cc)
      | inr p ↦ absurd (elim p [ inl far ↦ omega (arith, here, far, h.small) | inr far ↦ omega (arith, here, far, h.small) ])
    ]
opened-place number b s w sent packet h (inr (away, flags, e)) t a =
    let is : packet ≡ retry_packet ((number + 4) % 8) flags = retry-heard ((number + 4) % 8) flags sent packet e t ∙ e in
    absurd (acks-retry ((number + 4) % 8) number flags (omega arith) (rw is at a))

opened : (number b : ℕ) (s : Session) (w : Delivery) (sent : Packet)
    → IsOpening number b s w → w.inbound.receiver.last ≡ number → w.inbound.receiver.kept ≡ None → w.answer ≡ Some sent → sent ≡ ack_packet number →
    IsQuiet number b s (delivery_of_sender w (sending_after number))
opened number b s w sent h l k n e = record {
  up = refl;
  outstanding = refl;
  small = h.small;
  last_is = l;
  next = refl;
  kept = k;
  packet_sent = rw h.packet_sent (inl (cc, refl));
  answer = rw n e;
  delivered = cc;
  acknowledged = cc;
  counted = omega (arith, h.base_is, ap (λ (t : Session). t.acknowledged) h.session_is);
}

answer-opening : (number : ℕ) (w : Delivery) (packet : Packet) (x : Sending × SenderHeard)
    → IsOpening number (first_number w) (present_session w) w → IsHeardOf w.answer packet → HearsOpening w.outbound.sender number packet x
    → AfterAnswer w x
unfolding AfterAnswer with_outbound after_answer newest_after
answer-opening number w packet x h heard (opens a e) =
    let answer = newest w.answer (IsOpeningAnswer w.inbound.receiver.last number) heard.sent h.answer heard.newest_is in
    let place = opened-place number (first_number w) (present_session w) w heard.sent packet h answer heard.true_to a in
    rw e (quiet number (opened number (first_number w) (present_session w) w heard.sent h place.0 place.1 heard.newest_is place.2))
answer-opening number w packet x h heard (waits e) = rw e (opening number h)

answer-phase : (w : Delivery) (packet : Packet) → IsMarked w → IsDeliveringNow w → IsHeardOf w.answer packet → AfterAnswer w (sender_heard w.outbound.sender packet)
unfolding AfterAnswer with_outbound after_answer newest_after
answer-phase w packet m (quiet last q) heard = rw (quiet-answer w.outbound.sender packet q.outstanding) (quiet last q)
answer-phase w packet m (busy number message h) heard =
    answer-busy number message w packet (sender_heard w.outbound.sender packet) m h heard (message-answer w.outbound.sender message packet h.outstanding)
answer-phase w packet m (opening number h) heard = answer-opening number w packet (sender_heard w.outbound.sender packet) h heard (opening-answer w.outbound.sender number packet h.outstanding)

-- every event, and every run

happens-delivering : (w : Delivery) (event : Happening) → IsMarked w → IsDeliveringNow w → IsClean w event → IsDeliveringNow (happens w event).0
unfolding happens IsClean AfterData AfterAnswer
happens-delivering w (Offering message) m k c = offer-phase w message m k c
happens-delivering w Time_up m k c = timeout-phase w k
happens-delivering w Opening_again m k c = reopen-phase w m k
happens-delivering w (Data_heard packet) m k c = data-phase w packet m k c
happens-delivering w (Answer_heard packet) m k c = answer-phase w packet m k c

pub happens-kept : (w : Delivery) (event : Happening) → IsKept w → IsClean w event → IsKept (happens w event).0
happens-kept w event k c = record {
  delivering = happens-delivering w event k.divided.0 k.delivering c;
  divided = happens-divided IsOrderly w event k.divided (orderly-delivering (first_number w) (present_session w) w k.delivering);
}

pub run-kept : (events : List Happening) (w : Delivery) → IsKept w → IsCleanRun w events → IsKept (delivery_run w events)
run-kept events w k c = run-keeps happens IsClean IsKept happens-kept events w k c

pub first-kept : IsKept first_delivery
unfolding last_mark
first-kept = record {
  delivering =
      quiet 7 (record {
        up = refl;
        outstanding = refl;
        small = omega arith;
        last_is = refl;
        next = refl;
        kept = refl;
        packet_sent = tt;
        answer = tt;
        delivered = refl;
        acknowledged = refl;
        counted = refl;
      });
  divided = first-divided IsOrderly;
}

pub sessions-orderly : (events : List Happening) → IsCleanRun first_delivery events → AreOrderly (sessions_of (delivery_run first_delivery events))
sessions-orderly events c = orderly-kept (delivery_run first_delivery events) (run-kept events first_delivery first-kept c)

pub facts-kept : (events : List Happening) → IsCleanRun first_delivery events → DeliveryFacts (delivery_run first_delivery events)
facts-kept events c =
    let w = delivery_run first_delivery events in
    facts-delivering (first_number w) (present_session w) w (run-kept events first_delivery first-kept c).delivering

pub run-delivers : (events : List Happening) (message : List ℕ)
    → IsCleanRun first_delivery events → (delivery_run first_delivery events).outbound.sender.outstanding ≡ Nothing → length message ≤ 2028 →
    DeliversAtOnce (delivery_run first_delivery events).outbound.sender (delivery_run first_delivery events).inbound.receiver message
run-delivers events message c o short =
    let w = delivery_run first_delivery events in
    delivers-delivering (first_number w) (present_session w) w message (run-kept events first_delivery first-kept c).delivering o short

-- if the session is reopened, its first number is one more than that of the opening packet

sent-reopens : (o : Outgoing) (delivered : ℕ) (again : Bool) (s : Sending) (n number : ℕ) (packet : Packet)
    → s.outstanding ≡ Opening n → (after_reopening o delivered again (s, ReopenSent n packet)).1.0 ≡ Reopened number →
    (after_reopening o delivered again (s, ReopenSent n packet)).0.sender.outstanding ≡ Opening number
unfolding after_reopening
sent-reopens o delivered again s n number packet out e = let same : n ≡ number = cc in cc

up-reopens : (o : Outgoing) (delivered : ℕ) (again : Bool) (s : Sending) (number : ℕ) → (after_reopening o delivered again (s, ReopenUp)).1.0 ≡ Reopened number → ⊥
unfolding after_reopening
up-reopens o delivered again s number e = cc

reopened-opens : (w : Delivery) (number : ℕ) → (happens w Opening_again).1 ≡ Reopened number → (happens w Opening_again).0.outbound.sender.outstanding ≡ Opening number
unfolding happens with_outbound
reopened-opens w number e =
    let o = w.outbound in
    let s = o.sender in
    let again = is_opening s.outstanding in
    let delivered = length w.inbound.received in
    let Opens : Sending × Reopen → Type 0 = λ (x : Sending × Reopen). (after_reopening o delivered again x).1.0 ≡ Reopened number
    → (after_reopening o delivered again x).0.sender.outstanding ≡ Opening number in
    let n = opening_number s.outstanding s.next in
    elim (reopen-cases s n refl) [
      | inl is ↦ subst Opens (sym is) (λ (up : (after_reopening o delivered again (s, ReopenUp)).1.0 ≡ Reopened number). absurd (up-reopens o delivered again s number up)) e
      | inr is ↦ subst Opens (sym is) (sent-reopens o delivered again _ n number (opening_packet n) refl) e
    ]

opening-base : (number b : ℕ) (s : Session) (w : Delivery) → IsDelivering b s w → w.outbound.sender.outstanding ≡ Opening number → b ≡ (number + 1) % 8
opening-base number b s w (quiet last q) o = let both : Nothing ≡ Opening number = cc in cc
opening-base number b s w (busy other message h) o = let both : Message message ≡ Opening number = cc in cc
opening-base number b s w (opening other h) o = let both : Opening other ≡ Opening number = cc in let same : other ≡ number = cc in cc

pub first-is : (events : List Happening) → IsCleanRun first_delivery events → (number : ℕ) → (happens (delivery_run first_delivery events) Opening_again).1 ≡ Reopened number →
    first_number (happens (delivery_run first_delivery events) Opening_again).0 ≡ (number + 1) % 8
unfolding IsClean
first-is events c number e =
    let w = delivery_run first_delivery events in
    let v = (happens w Opening_again).0 in
    opening-base number (first_number v) (present_session v) v (happens-kept w Opening_again (run-kept events first_delivery first-kept c) tt).delivering (reopened-opens w number e)
