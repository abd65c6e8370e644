-- An offer, a timeout and a reopening keep a delivery in a phase: each phase in turn, by the result of the sender there.
use Rattle.std.proofs.{Common.{◌≡◌, ℕ, ◌+◌, ◌%◌, ◌<◌, ◌≤◌, ◌⊎◌, inl, inr, Bool, true, false, List, [], ◌∷◌, ◌++◌, length, Option, Some, refl, ap, sym, ◌∙◌, subst, arith}, lemmas.Option.{IfSome_then}}
use Rattle.std.specs.Prelude.{IfSome}
use Rattle.p25_packet_blocks.specs.declared.packet.Packet.{Packet}
use Rattle.p25_delivery.specs.{Places.{held_flags}, SentPackets.{message_packet, ack_packet, retry_packet, opening_packet}, Halves.{Sending, Keeping, Receiving}}
use Rattle.p25_delivery.specs.{SenderRules.{offered, timed_out, opening_number, reopened, is_opening}, declared.sender.Outstanding.{Outstanding}}
use Rattle.p25_delivery.specs.{declared.sender.Outstanding.TheVariants.{Message, Opening}, HalfRules.{after_offer, after_timeout, after_reopening}}
use Rattle.p25_delivery.specs.{Delivery.{Delivery, Session, present_session, first_number, newest_after, with_outbound}, Facts.{IsDataOf, KeepsOf}}
use Rattle.p25_messages.specs.{declared.answers.Offer.{Offer}, declared.answers.Offer.TheVariants.{Busy, Down as OfferDown}, declared.answers.Resend.{Resend}}
use Rattle.p25_messages.specs.{declared.answers.Resend.TheVariants.{Sent, Idle, Down as ResendDown}, declared.answers.Reopen.{Reopen}}
use Rattle.p25_delivery.proofs.SenderLaws.{IsSame, Resends, offer-quiet, offer-message, offer-opening, timeout-message, timeout-opening, timeout-quiet, reopen-cases, reopen-up}
use Rattle.p25_delivery.proofs.SessionLaws.{with_sent, one_sent, IsMarked, marked, present-sent, present-marked, number-marked}
use Rattle.p25_delivery.proofs.PhaseLaws.{IsQuiet, IsWaitingAnswer, IsWaiting, IsArrived, IsBusy, IsOpeningAnswer, IsOpening, IsDeliveringNow, quiet, busy, opening}

-- a property of a newest transmission, if there is one
pub newest : (o : Option Packet) (P : Packet → Type 0) (packet : Packet) → IfSome o P → o ≡ Some packet → P packet
newest o P packet h e = rw e at h

-- a delivery with another sender, and with another newest transmission of data beside it

abbrev pub delivery_of_sender : Delivery → Sending → Delivery
delivery_of_sender w t = record w { outbound = record w.outbound { sender = t } }

abbrev pub delivery_of_data : Delivery → Sending → Packet → Delivery
delivery_of_data w t packet = record w { outbound = record w.outbound { sender = t }; packet_sent = Some packet }

-- a phase with another sender that has the same number and the same outstanding

pub busy-sender : (number : ℕ) (message : List ℕ) (b : ℕ) (s : Session) (w : Delivery) (t : Sending)
    → IsBusy number message b s w → IsSame w.outbound.sender t → IsBusy number message b s (delivery_of_sender w t)
busy-sender number message b s w t h e = record {
  next = e.next ∙ h.next;
  outstanding = e.outstanding ∙ h.outstanding;
  small = h.small;
  short = h.short;
  packet_sent = h.packet_sent;
  counted = h.counted;
  place = h.place;
}

pub busy-data : (number : ℕ) (message : List ℕ) (b : ℕ) (s : Session) (w : Delivery) (t : Sending) (packet : Packet)
    → IsBusy number message b s w → IsSame w.outbound.sender t → IsDataOf number message packet →
    IsBusy number message b s (delivery_of_data w t packet)
busy-data number message b s w t packet h e d = record {
  next = e.next ∙ h.next;
  outstanding = e.outstanding ∙ h.outstanding;
  small = h.small;
  short = h.short;
  packet_sent = d;
  counted = h.counted;
  place = h.place;
}

opening-sender : (number b : ℕ) (s : Session) (w : Delivery) (t : Sending) → IsOpening number b s w → t.outstanding ≡ Opening number → IsOpening number b s (delivery_of_sender w t)
opening-sender number b s w t h e = record {
  outstanding = e;
  small = h.small;
  last_small = h.last_small;
  place = h.place;
  packet_sent = h.packet_sent;
  answer = h.answer;
  session_is = h.session_is;
  base_is = h.base_is;
}

opening-data : (number b : ℕ) (s : Session) (w : Delivery) (t : Sending) (packet : Packet)
    → IsOpening number b s w → t.outstanding ≡ Opening number → packet ≡ opening_packet number → IsOpening number b s (delivery_of_data w t packet)
opening-data number b s w t packet h e d = record {
  outstanding = e;
  small = h.small;
  last_small = h.last_small;
  place = h.place;
  packet_sent = cc;
  answer = h.answer;
  session_is = h.session_is;
  base_is = h.base_is;
}

-- a message is offered

AfterOffer : Delivery → List ℕ → Sending × Offer → Type 0
AfterOffer w message x = IsDeliveringNow (with_outbound w (after_offer w.outbound message x)).0

-- a message is taken if nothing is outstanding
taken : (last b : ℕ) (s : Session) (w : Delivery) (message : List ℕ) → IsQuiet last b s w → length message ≤ 2028 →
    IsBusy ((last + 1) % 8) message b (with_sent s message)
    (delivery_of_data (one_sent w message) (record { next = w.outbound.sender.next; outstanding = Message message; tries = 1; down = false }) (message_packet w.outbound.sender.next message))
unfolding IsDataOf
taken last b s w message q short = record {
  next = q.next;
  outstanding = refl;
  small = omega arith;
  short = short;
  packet_sent = inl (cc);
  counted = q.counted;
  place =
      inl (record {
        last_small = omega (arith, q.last_is, q.small);
        sync = cc;
        kept = rw q.kept tt;
        answer = IfSome_then w.answer q.answer (λ (p : Packet) (e : p ≡ ack_packet last). inl (cc));
        sent = cc;
        acknowledged = cc;
      });
}

-- a message is outstanding, or the opening packet is: the delivery stays as it was
pub offer-held : (P : Delivery → Type 0) (w : Delivery) (message : List ℕ) →
    (offered w.outbound.sender message ≡ (w.outbound.sender, Busy)) ⊎ (offered w.outbound.sender message ≡ (w.outbound.sender, OfferDown)) → P w →
    P (with_outbound w (after_offer w.outbound message (offered w.outbound.sender message))).0
unfolding with_outbound after_offer newest_after
offer-held P w message (inl e) p = rw e p
offer-held P w message (inr e) p = rw e p

pub offer-phase : (w : Delivery) (message : List ℕ) → IsMarked w
    → IsDeliveringNow w → length message ≤ 2028 → IsDeliveringNow (with_outbound w (after_offer w.outbound message (offered w.outbound.sender message))).0
unfolding AfterOffer with_outbound after_offer newest_after
offer-phase w message m (quiet last q) short =
    let sender : Sending = record { next = w.outbound.sender.next; outstanding = Message message; tries = 1; down = false } in
    let now : Session → Type 0 = λ (s : Session). IsBusy ((last + 1) % 8) message (first_number w) s (delivery_of_data (one_sent w message) sender (message_packet w.outbound.sender.next message)) in
    rw (offer-quiet w.outbound.sender message q.up q.outstanding) (busy ((last + 1) % 8) message (rw (present-sent w message m) (taken last (first_number w) (present_session w) w message q short)))
offer-phase w message m (busy number other h) short = offer-held IsDeliveringNow w message (offer-message w.outbound.sender message other h.outstanding) (busy number other h)
offer-phase w message m (opening number h) short = offer-held IsDeliveringNow w message (offer-opening w.outbound.sender message number h.outstanding) (opening number h)

-- time is up

AfterTimeout : Delivery → Sending × Resend → Type 0
AfterTimeout w x = IsDeliveringNow (with_outbound w (after_timeout w.outbound x)).0

busy-resent : (number : ℕ) (message : List ℕ) (w : Delivery) (x : Sending × Resend)
    → IsBusy number message (first_number w) (present_session w) w → Resends (IsDataOf number message) w.outbound.sender x → AfterTimeout w x
unfolding AfterTimeout with_outbound after_timeout newest_after
busy-resent number message w (t, Sent n tries packet) h r = busy number message (busy-data number message (first_number w) (present_session w) w t packet h r.0 r.1)
busy-resent number message w (t, Idle) h r = busy number message (busy-sender number message (first_number w) (present_session w) w t h r.0)
busy-resent number message w (t, ResendDown) h r = busy number message (busy-sender number message (first_number w) (present_session w) w t h r.0)

opening-resent : (number : ℕ) (w : Delivery) (x : Sending × Resend)
    → IsOpening number (first_number w) (present_session w) w → Resends (λ packet. packet ≡ opening_packet number) w.outbound.sender x → AfterTimeout w x
unfolding AfterTimeout with_outbound after_timeout newest_after
opening-resent number w (t, Sent n tries packet) h r = opening number (opening-data number (first_number w) (present_session w) w t packet h (r.0.outstanding ∙ h.outstanding) r.1)
opening-resent number w (t, Idle) h r = opening number (opening-sender number (first_number w) (present_session w) w t h (r.0.outstanding ∙ h.outstanding))
opening-resent number w (t, ResendDown) h r = opening number (opening-sender number (first_number w) (present_session w) w t h (r.0.outstanding ∙ h.outstanding))

pub timeout-phase : (w : Delivery) → IsDeliveringNow w → IsDeliveringNow (with_outbound w (after_timeout w.outbound (timed_out w.outbound.sender))).0
unfolding AfterTimeout with_outbound after_timeout newest_after
timeout-phase w (quiet last q) = rw (timeout-quiet w.outbound.sender q.up q.outstanding) (quiet last q)
timeout-phase w (busy number message h) =
    busy-resent number message w (timed_out w.outbound.sender) h (rw (← h.next) (timeout-message w.outbound.sender message h.outstanding))
timeout-phase w (opening number h) = opening-resent number w (timed_out w.outbound.sender) h (timeout-opening w.outbound.sender number h.outstanding)

-- the session is opened again

AfterReopening : Delivery → Bool → Sending × Reopen → Type 0
AfterReopening w again x = IsDeliveringNow (with_outbound w (after_reopening w.outbound (length w.inbound.received) again x)).0

-- V(R) and the newest response of a delivery whose message is given up
record IsGivenUp (number : ℕ) (r : Receiving) (answered : Option Packet) : Type 0 where
  pub last_small : r.last < 8
  pub place : (r.last ≡ (number + 3) % 8) ⊎ (r.last ≡ (number + 4) % 8)
  pub answer : IfSome answered (IsOpeningAnswer r.last number)

given-up-place : (number : ℕ) (message : List ℕ) (s : Session) (r : Receiving) (answered : Option Packet)
    → number < 8 → IsWaiting number message s r answered ⊎ IsArrived number message s r answered → IsGivenUp ((number + 4) % 8) r answered
given-up-place number message s r answered small (inl h) = record {
  last_small = h.last_small;
  place = inl (omega (arith, h.sync, h.last_small, small));
  answer =
      IfSome_then answered h.answer (λ (p : Packet) (a : IsWaitingAnswer r number p).
      elim a [
        | inl e ↦ inl e
        | inr (kept, is, e) ↦
            (let back : number ≡ ((number + 4) % 8 + 4) % 8 = omega (arith, small) in
            inr ((λ z. absurd (omega (arith, z, h.sync, h.last_small, small))), held_flags kept.places, cc))
      ]);
}
given-up-place number message s r answered small (inr h) = record {
  last_small = omega (arith, h.last_is, small);
  place = inr (omega (arith, h.last_is, small));
  answer = IfSome_then answered h.answer (λ (p : Packet) (e : p ≡ ack_packet number). inl (cc));
}

given-up : (number : ℕ) (message : List ℕ) (w : Delivery) (t : Sending) → IsMarked w → IsBusy number message (first_number w) (present_session w) w → t.outstanding ≡ Opening ((number + 4) % 8) →
    IsDeliveringNow (delivery_of_data (marked w) t (opening_packet ((number + 4) % 8)))
given-up number message w t m h o =
    let up = given-up-place number message (present_session w) w.inbound.receiver w.answer h.small h.place in
    opening ((number + 4) % 8) (record {
      outstanding = o;
      small = omega arith;
      last_small = up.last_small;
      place = inr up.place;
      packet_sent = refl;
      answer = up.answer;
      session_is = present-marked w;
      base_is = omega (arith, number-marked w m, h.counted);
    })

opening_number-message : (out : Outstanding) (number next : ℕ) (message : List ℕ) → out ≡ Message message → next ≡ number → opening_number out next ≡ (number + 4) % 8
unfolding opening_number
opening_number-message out number next message o n = cc

opening_number-opening : (out : Outstanding) (number next : ℕ) → out ≡ Opening number → opening_number out next ≡ number
unfolding opening_number
opening_number-opening out number next o = cc

pub reopen-phase : (w : Delivery) → IsMarked w → IsDeliveringNow w → IsDeliveringNow
    (with_outbound w (after_reopening w.outbound (length w.inbound.received) (is_opening w.outbound.sender.outstanding) (reopened w.outbound.sender))).0
unfolding AfterReopening with_outbound after_reopening newest_after
reopen-phase w m (quiet last q) =
    subst (λ (out : Outstanding). AfterReopening w (is_opening out) (reopened w.outbound.sender)) (sym q.outstanding)
    (subst (AfterReopening w false) (sym (reopen-up w.outbound.sender q.up)) (quiet last q))
reopen-phase w m (busy number message h) =
    subst (λ (out : Outstanding). AfterReopening w (is_opening out) (reopened w.outbound.sender)) (sym h.outstanding)
    (elim (reopen-cases w.outbound.sender ((number + 4) % 8) (opening_number-message w.outbound.sender.outstanding number w.outbound.sender.next message h.outstanding h.next)) [
      | inl e ↦ subst (AfterReopening w false) (sym e) (busy number message h)
      | inr e ↦ rw e (given-up number message w _ m h refl)
    ])
reopen-phase w m (opening number h) =
    subst (λ (out : Outstanding). AfterReopening w (is_opening out) (reopened w.outbound.sender)) (sym h.outstanding)
    (elim (reopen-cases w.outbound.sender number (opening_number-opening w.outbound.sender.outstanding number w.outbound.sender.next h.outstanding)) [
      | inl e ↦ subst (AfterReopening w true) (sym e) (opening number h)
      | inr e ↦ rw e (opening number (opening-data number (first_number w) (present_session w) w _ (opening_packet number) h refl refl))
    ])
