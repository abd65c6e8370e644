-- The counts of sessions in any run: by the outstanding packet, each event keeps the relation of the numbers sent and acknowledged.
use Rattle.std.proofs.{Common.{◌≡◌, ℕ, ◌+◌, ◌⊎◌, inl, inr, Bool, true, false, cond, List, [], ◌∷◌, ◌++◌, length, refl, ap, sym, subst, arith, length-append}, lemmas.List.Elements.{All-push}}
use Rattle.p25_packet_blocks.specs.declared.packet.Packet.{Packet}
use Rattle.p25_delivery.specs.{MessageBlocks.{block_count}, SentPackets.{message_packet, opening_packet}, Halves.{Sending}}
use Rattle.p25_delivery.specs.{SenderRules.{offered_beside, offered, timed_out_with, timed_out, sender_heard, opening_number, reopened, is_opening}, declared.sender.Outstanding.{Outstanding}}
use Rattle.p25_delivery.specs.{declared.sender.Outstanding.TheVariants.{Nothing, Message, Opening}, HalfRules.{after_offer, after_timeout, after_reopening, after_answer}}
use Rattle.p25_delivery.specs.Delivery.{Session, Delivery, first_delivery, last_mark, sessions_of, present_session, with_outbound, with_inbound, Happening, Offering, Time_up, Opening_again, Data_heard, Answer_heard, happens, delivery_run}
use Rattle.p25_delivery.specs.Orderly.{IsCounted, AreCounted}
use Rattle.p25_messages.specs.{declared.answers.Offer.{Offer}, declared.answers.Offer.TheVariants.{Taken, Down as OfferDown}, declared.answers.Resend.{Resend}}
use Rattle.p25_messages.specs.{declared.answers.SenderHeard.{SenderHeard}, declared.answers.SenderHeard.TheVariants.{Retry, Repeat, Ignored as SenderIgnored, Down as HeardDown}}
use Rattle.p25_messages.specs.declared.answers.Reopen.{Reopen}
use Rattle.p25_delivery.proofs.SenderLaws.{IsSame, Resends, resent-of, timeout-of, Stays, HearsAnswer, goes_on, stays, HearsOpening, opens, waits, offer-message, offer-opening, reopen-cases, message-answer, opening-answer, quiet-answer}
use Rattle.p25_delivery.proofs.{SessionLaws.{IsMarked, IsDivided, ended_sessions, sessions-split, present-sent, present-acknowledged, present-marked, first-divided}, EndedLaws.{happens-divided}}
use Rattle.p25_delivery.proofs.{CallLaws.{offer-held}, RunLaws.{each-all, run-keeps_all}}

-- the numbers sent and acknowledged, by the outstanding packet
unfoldable CountsBy : Outstanding → ℕ → ℕ → Type 0
CountsBy (Message message) sent acknowledged = sent ≡ acknowledged + 1
CountsBy other sent acknowledged = sent ≡ acknowledged

abbrev CountsIn : Outstanding → Session → Type 0
CountsIn out s = CountsBy out (length s.sent) s.acknowledged

abbrev HasCounts : Delivery → Type 0
HasCounts w = CountsIn w.outbound.sender.outstanding (present_session w)

counted-present : (out : Outstanding) (s : Session) → CountsIn out s → IsCounted s
unfolding CountsBy
counted-present Nothing s e = record { acknowledged = omega arith; sent = omega arith }
counted-present out s e = record { acknowledged = omega arith; sent = omega arith }

-- the counts with the outstanding packet under another name
counts-at : (w : Delivery) (out : Outstanding) → out ≡ w.outbound.sender.outstanding → HasCounts w → CountsIn out (present_session w)
counts-at w out e h = rw e h

-- an offer

AfterOffer : Delivery → List ℕ → Sending × Offer → Type 0
AfterOffer w message x = HasCounts (with_outbound w (after_offer w.outbound message x)).0

offer-nothing : (s : Sending) (message : List ℕ) → s.outstanding ≡ Nothing → (offered s message ≡ (s, OfferDown)) ⊎
    (offered s message ≡ (record { next = s.next; outstanding = Message message; tries = 1; down = false }, Taken s.next (block_count (length message)) (message_packet s.next message)))
unfolding offered offered_beside
offer-nothing s message o =
    let taken : Sending × Offer = (record { next = s.next; outstanding = Message message; tries = 1; down = false }, Taken s.next (block_count (length message)) (message_packet s.next message)) in
    let is : offered_beside s.outstanding s message ≡ taken = cc in
    elim s.down as (λ (b : Bool). (cond b (s, OfferDown) (offered_beside s.outstanding s message) ≡ (s, OfferDown)) ⊎ (cond b (s, OfferDown) (offered_beside s.outstanding s message) ≡ taken)) [
      | true ↦ inl refl
      | false ↦ inr is
    ]

offer-counts : (w : Delivery) (message : List ℕ) (out : Outstanding) → w.outbound.sender.outstanding ≡ out → IsMarked w → HasCounts w → AfterOffer w message (offered w.outbound.sender message)
unfolding AfterOffer with_outbound after_offer CountsBy
offer-counts w message Nothing o m h =
    let s = present_session w in
    elim (offer-nothing w.outbound.sender message o) [
      | inl e ↦ rw e h
      | inr e ↦
          (let was : length s.sent ≡ s.acknowledged = counts-at w Nothing (sym o) h in
          let now : length (s.sent ++ message ∷ []) ≡ s.acknowledged + 1 = omega (arith, was, length-append s.sent (message ∷ [])) in
          rw e (subst (CountsIn (Message message)) (sym (present-sent w message m)) now))
    ]
offer-counts w message (Message other) o m h = offer-held HasCounts w message (offer-message w.outbound.sender message other o) h
offer-counts w message (Opening number) o m h = offer-held HasCounts w message (offer-opening w.outbound.sender message number o) h

-- a timeout

abbrev Anything : Packet → Type 0
Anything packet = Unit {0}

timeout-any : (s : Sending) (out : Outstanding) → s.outstanding ≡ out → Resends Anything s (timed_out s)
unfolding timed_out_with
timeout-any s Nothing o = timeout-of Anything s Nothing o (record { next = refl; outstanding = refl }, tt)
timeout-any s (Message message) o = timeout-of Anything s (Message message) o (resent-of Anything s s.next (message_packet s.next message) tt)
timeout-any s (Opening number) o = timeout-of Anything s (Opening number) o (resent-of Anything s number (opening_packet number) tt)

timeout-counts : (w : Delivery) (x : Sending × Resend) → IsSame w.outbound.sender x.0 → HasCounts w → HasCounts (with_outbound w (after_timeout w.outbound x)).0
unfolding with_outbound after_timeout
timeout-counts w x t h = counts-at w x.0.outstanding t.outstanding h

-- a reopening

AfterReopening : Delivery → Bool → Sending × Reopen → Type 0
AfterReopening w again x = HasCounts (with_outbound w (after_reopening w.outbound (length w.inbound.received) again x)).0

reopen-counts : (w : Delivery) (out : Outstanding) → w.outbound.sender.outstanding ≡ out → HasCounts w → AfterReopening w (is_opening out) (reopened w.outbound.sender)
unfolding AfterReopening with_outbound after_reopening CountsBy
reopen-counts w (Opening number) o h =
    elim (reopen-cases w.outbound.sender (opening_number w.outbound.sender.outstanding w.outbound.sender.next) refl) [
      | inl e ↦ rw e h
      | inr e ↦ rw e (counts-at w (Opening number) (sym o) h)
    ]
reopen-counts w out o h =
    elim (reopen-cases w.outbound.sender (opening_number w.outbound.sender.outstanding w.outbound.sender.next) refl) [
      | inl e ↦ rw e h
      | inr e ↦ rw e (subst (CountsIn (Opening (opening_number w.outbound.sender.outstanding w.outbound.sender.next))) (sym (present-marked w)) refl)
    ]

-- a packet that the sender receives

AfterAnswer : Delivery → Sending × SenderHeard → Type 0
AfterAnswer w x = HasCounts (with_outbound w (after_answer w.outbound x)).0

stays-counts : (w : Delivery) (message : List ℕ) (x : Sending × SenderHeard) → Stays w.outbound.sender message x → HasCounts w → AfterAnswer w x
unfolding AfterAnswer with_outbound after_answer
stays-counts w message (s, Retry number wanted tries packet) t h = counts-at w s.outstanding t.0.outstanding h
stays-counts w message (s, Repeat number tries packet) t h = counts-at w s.outstanding t.0.outstanding h
stays-counts w message (s, SenderIgnored) t h = counts-at w s.outstanding t.0.outstanding h
stays-counts w message (s, HeardDown) t h = counts-at w s.outstanding t.0.outstanding h
stays-counts w message x t h = absurd t.1

message-counts : (w : Delivery) (message : List ℕ) (packet : Packet) (x : Sending × SenderHeard)
    → w.outbound.sender.outstanding ≡ Message message → IsMarked w → HearsAnswer w.outbound.sender message packet x → HasCounts w → AfterAnswer w x
unfolding AfterAnswer with_outbound after_answer CountsBy
message-counts w message packet x o m (goes_on a e) h = rw e (subst (CountsIn Nothing) (sym (present-acknowledged w m)) (counts-at w (Message message) (sym o) h))
message-counts w message packet x o m (stays t) h = stays-counts w message x t h

opening-counts : (w : Delivery) (number : ℕ) (packet : Packet) (x : Sending × SenderHeard)
    → w.outbound.sender.outstanding ≡ Opening number → HearsOpening w.outbound.sender number packet x → HasCounts w → AfterAnswer w x
unfolding AfterAnswer with_outbound after_answer CountsBy
opening-counts w number packet x o (opens a e) h = rw e (counts-at w (Opening number) (sym o) h)
opening-counts w number packet x o (waits e) h = rw e h

answer-counts : (w : Delivery) (packet : Packet) (out : Outstanding) → w.outbound.sender.outstanding ≡ out → IsMarked w → HasCounts w → AfterAnswer w (sender_heard w.outbound.sender packet)
unfolding AfterAnswer with_outbound after_answer
answer-counts w packet Nothing o m h = rw (quiet-answer w.outbound.sender packet o) h
answer-counts w packet (Message message) o m h = message-counts w message packet (sender_heard w.outbound.sender packet) o m (message-answer w.outbound.sender message packet o) h
answer-counts w packet (Opening number) o m h = opening-counts w number packet (sender_heard w.outbound.sender packet) o (opening-answer w.outbound.sender number packet o) h

-- every event, and every run

happens-counts : (w : Delivery) (event : Happening) → IsMarked w → HasCounts w → HasCounts (happens w event).0
unfolding happens with_inbound AfterOffer AfterReopening AfterAnswer
happens-counts w (Offering message) m h = offer-counts w message w.outbound.sender.outstanding refl m h
happens-counts w Time_up m h = timeout-counts w (timed_out w.outbound.sender) (timeout-any w.outbound.sender w.outbound.sender.outstanding refl).0 h
happens-counts w Opening_again m h = reopen-counts w w.outbound.sender.outstanding refl h
happens-counts w (Data_heard packet) m h = h
happens-counts w (Answer_heard packet) m h = answer-counts w packet w.outbound.sender.outstanding refl m h

abbrev IsCountedLink : Delivery → Type 0
IsCountedLink w = HasCounts w × IsDivided IsCounted w

happens-counted : (w : Delivery) (event : Happening) → IsCountedLink w → IsCountedLink (happens w event).0
happens-counted w event h = (happens-counts w event h.1.0 h.0, happens-divided IsCounted w event h.1 (counted-present w.outbound.sender.outstanding (present_session w) h.0))

first-counts : HasCounts first_delivery
unfolding CountsBy last_mark
first-counts = refl

pub sessions-counted : (events : List Happening) → AreCounted (sessions_of (delivery_run first_delivery events))
sessions-counted events =
    let w = delivery_run first_delivery events in
    let h : IsCountedLink w = run-keeps_all happens IsCountedLink happens-counted events first_delivery (first-counts, first-divided IsCounted) in
    let present = counted-present w.outbound.sender.outstanding (present_session w) h.0 in
    rw (sessions-split w) (each-all IsCounted (ended_sessions w ++ present_session w ∷ []) (All-push IsCounted (ended_sessions w) (present_session w) h.1.1 present))
