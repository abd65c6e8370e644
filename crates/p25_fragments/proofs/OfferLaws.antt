-- The result of the offer of part 0 for a long message. By the rules of the sender: whether it is down, and its outstanding packet.
use Rattle.std.proofs.{Common.{◌≡◌, ℕ, Bool, true, false, List, [], ◌∷◌, ◌++◌, length, Some, None, ap, ap₂, sym, subst, refl, ◌∙◌}, lemmas.Bool.{cond-true, cond-false}}
use Rattle.p25_messages.specs.{LongMessages.{part_of}, declared.answers.Offer.{Offer}, declared.answers.Offer.TheVariants.{Down as DownAtOffer}}
use Rattle.p25_messages.specs.declared.step_kind.StepKind.TheVariants.{Taken, Busy as BusyAtOffer, OfferDown}
use Rattle.p25_delivery.specs.{MessageBlocks.{block_count}, SentPackets.{message_packet}, Halves.{Sending}, SenderRules.{offered_beside, offered}, declared.sender.Outstanding.{Outstanding}}
use Rattle.p25_delivery.specs.{declared.sender.Outstanding.TheVariants.{Nothing, Message, Opening}, HalfRules.{after_offer}, Delivery.{Delivery, newest_after, with_outbound, happens}}
use Rattle.p25_delivery.proofs.SenderLaws.{offer-quiet}
use Rattle.p25_stations.specs.{declared.step.Event.TheVariants.{Send}, declared.step.Step.{Step}, Runs.{true_step}, WorldState.{WorldState}, Steps.{quiet_step, world_step}}
use Rattle.p25_fragments.specs.{declared.long_step.LongStep.{LongStep}, declared.long_step.Then.TheVariants.{Busy, Down}, LongState.{LongState}}
use Rattle.p25_fragments.specs.LongSteps.{unmoved, started, long_offered_beside, long_offered}

-- the results of the sender

offered-down : (s : Sending) (message : List ℕ) → s.down ≡ true → offered s message ≡ (s, DownAtOffer)
unfolding offered
offered-down s message d = cond-true s.down _ _ d

offered-up : (s : Sending) (message : List ℕ) (out : Outstanding) → s.down ≡ false → s.outstanding ≡ out → offered s message ≡ offered_beside out s message
unfolding offered
offered-up s message out d o = cc (cond-false s.down _ _ d)

-- and the step that it is
step-of : (w : WorldState) (message : List ℕ) (x : Sending × Offer) → offered w.delivery.outbound.sender message ≡ x
    → world_step w (Send message) ≡ quiet_step w (with_outbound w.delivery (after_offer w.delivery.outbound message x))
unfolding world_step happens
step-of w message x e = cc

send-down : (w : WorldState) (message : List ℕ) → w.delivery.outbound.sender.down ≡ true → world_step w (Send message) ≡ (w, true_step OfferDown)
unfolding with_outbound after_offer newest_after
send-down w message d = step-of w message _ (offered-down w.delivery.outbound.sender message d)

send-message : (w : WorldState) (message other : List ℕ) → w.delivery.outbound.sender.down ≡ false
    → w.delivery.outbound.sender.outstanding ≡ Message other → world_step w (Send message) ≡ (w, true_step BusyAtOffer)
unfolding with_outbound after_offer newest_after offered_beside
send-message w message other d o = step-of w message _ (offered-up w.delivery.outbound.sender message (Message other) d o)

send-opening : (w : WorldState) (message : List ℕ) (number : ℕ) → w.delivery.outbound.sender.down ≡ false
    → w.delivery.outbound.sender.outstanding ≡ Opening number → world_step w (Send message) ≡ (w, true_step BusyAtOffer)
unfolding with_outbound after_offer newest_after offered_beside
send-opening w message number d o = step-of w message _ (offered-up w.delivery.outbound.sender message (Opening number) d o)

-- a delivery whose sender has a message outstanding, which is sent
abbrev pub sending_delivery : Delivery → List ℕ → Delivery
sending_delivery v message =
    record v {
      outbound = record v.outbound { sender = record { next = v.outbound.sender.next; outstanding = Message message; tries = 1; down = false }; sent = v.outbound.sent ++ message ∷ [] };
      packet_sent = Some (message_packet v.outbound.sender.next message);
    }

pub send-taken : (w : WorldState) (message : List ℕ) → w.delivery.outbound.sender.down ≡ false → w.delivery.outbound.sender.outstanding ≡ Nothing →
    world_step w (Send message) ≡ (record w { delivery = sending_delivery w.delivery message }, true_step (Taken w.delivery.outbound.sender.next (block_count (length message))))
unfolding with_outbound after_offer newest_after
send-taken w message d o = step-of w message _ (offer-quiet w.delivery.outbound.sender message d o)

-- the result for a long message, by the inner world and its step after the offer
pub data OfferedAs (w : LongState) (message : List ℕ) (x : WorldState × Step) : Type 0 where
  told_down : x ≡ (w.inner, true_step OfferDown) → long_offered w message ≡ unmoved w Down → OfferedAs w message x
  told_busy : x ≡ (w.inner, true_step BusyAtOffer) → long_offered w message ≡ unmoved w Busy → OfferedAs w message x
  told_taken : (number blocks : ℕ) → x.1.kind ≡ Taken number blocks → w.inner.delivery.outbound.sender.down ≡ false
      → w.inner.delivery.outbound.sender.outstanding ≡ Nothing → long_offered w message ≡ started w message x →
      OfferedAs w message x

beside : (w : LongState) (message : List ℕ) (out : Outstanding) → w.inner.delivery.outbound.sender.down ≡ false
    → w.inner.delivery.outbound.sender.outstanding ≡ out → long_offered w message ≡ long_offered_beside out w message
unfolding long_offered
beside w message out d o = cc (cond-false w.inner.delivery.outbound.sender.down _ _ d)

long-down : (w : LongState) (message : List ℕ) → w.inner.delivery.outbound.sender.down ≡ true → long_offered w message ≡ unmoved w Down
unfolding long_offered
long-down w message d = cond-true w.inner.delivery.outbound.sender.down _ _ d

told-by : (w : LongState) (message : List ℕ) (down : Bool) (out : Outstanding) → w.inner.delivery.outbound.sender.down ≡ down → w.inner.delivery.outbound.sender.outstanding ≡ out →
    OfferedAs w message (world_step w.inner (Send (part_of message 0)))
unfolding long_offered_beside
told-by w message true out d o = told_down (send-down w.inner (part_of message 0) d) (long-down w message d)
told-by w message false Nothing d o = told_taken _ _ (ap (λ (x : WorldState × Step). x.1.kind) (send-taken w.inner (part_of message 0) d o)) d o (beside w message Nothing d o)
told-by w message false (Message part) d o = told_busy (send-message w.inner (part_of message 0) part d o) (beside w message (Message part) d o)
told-by w message false (Opening number) d o = told_busy (send-opening w.inner (part_of message 0) number d o) (beside w message (Opening number) d o)

pub offered-as : (w : LongState) (message : List ℕ) → OfferedAs w message (world_step w.inner (Send (part_of message 0)))
offered-as w message = told-by w message w.inner.delivery.outbound.sender.down w.inner.delivery.outbound.sender.outstanding refl refl

-- so in each arm of the code, which offered the part in a world and had it make this world and step

offered-here : (w : LongState) (message part : List ℕ) (inner : WorldState) (step : Step) → part ≡ part_of message 0 → inner ≡ (world_step w.inner (Send part)).0 →
    step ≡ (world_step w.inner (Send part)).1 → OfferedAs w message (inner, step)
offered-here w message part inner step p i s =
    let is : (inner, step) ≡ world_step w.inner (Send (part_of message 0)) = ap₂ (λ (v : WorldState) (t : Step). (v, t)) i s ∙ ap (λ (m : List ℕ). world_step w.inner (Send m)) p in
    subst (OfferedAs w message) (sym is) (offered-as w message)

down-arm : (w : LongState) (message : List ℕ) (inner : WorldState) (step : Step)
    → OfferedAs w message (inner, step) → step.kind ≡ OfferDown → (record w { inner = inner }, record { first = None; then = Down }) ≡ long_offered w message
down-arm w message inner step (told_down x e) k = ap (λ (y : WorldState × Step). (record w { inner = y.0 }, record { first = None; then = Down })) x ∙ sym e
down-arm w message inner step (told_busy x e) k = absurd (cc (k, ap (λ (y : WorldState × Step). y.1.kind) x))
down-arm w message inner step (told_taken number blocks t d o e) k = absurd (cc (k, t))

busy-arm : (w : LongState) (message : List ℕ) (inner : WorldState) (step : Step) → OfferedAs w message (inner, step)
    → step.kind ≡ BusyAtOffer → (record w { inner = inner }, record { first = None; then = Busy }) ≡ long_offered w message
busy-arm w message inner step (told_down x e) k = absurd (cc (k, ap (λ (y : WorldState × Step). y.1.kind) x))
busy-arm w message inner step (told_busy x e) k = ap (λ (y : WorldState × Step). (record w { inner = y.0 }, record { first = None; then = Busy })) x ∙ sym e
busy-arm w message inner step (told_taken number blocks t d o e) k = absurd (cc (k, t))

taken-arm : (w : LongState) (message : List ℕ) (inner : WorldState) (step : Step) → OfferedAs w message (inner, step)
    → (step.kind ≡ OfferDown → ⊥) → (step.kind ≡ BusyAtOffer → ⊥) → started w message (inner, step) ≡ long_offered w message
taken-arm w message inner step (told_down x e) no_down no_busy = absurd (no_down (ap (λ (y : WorldState × Step). y.1.kind) x))
taken-arm w message inner step (told_busy x e) no_down no_busy = absurd (no_busy (ap (λ (y : WorldState × Step). y.1.kind) x))
taken-arm w message inner step (told_taken number blocks t d o e) no_down no_busy = sym e

-- An offer, if the state of the code is the one with which the call began.

from : (now w : LongState) (message : List ℕ) (x : LongState × LongStep) → w ≡ now → x ≡ long_offered w message → x ≡ long_offered now message
from now w message x n e = cc

pub down-offer : (now w : LongState) (message part : List ℕ) (inner : WorldState) (step : Step)
    → w ≡ now → part ≡ part_of message 0 → inner ≡ (world_step w.inner (Send part)).0 → step ≡ (world_step w.inner (Send part)).1 →
    step.kind ≡ OfferDown → (record w { inner = inner }, record { first = None; then = Down }) ≡ long_offered now message
down-offer now w message part inner step n p i s k = from now w message _ n (down-arm w message inner step (offered-here w message part inner step p i s) k)

pub busy-offer : (now w : LongState) (message part : List ℕ) (inner : WorldState) (step : Step)
    → w ≡ now → part ≡ part_of message 0 → inner ≡ (world_step w.inner (Send part)).0 → step ≡ (world_step w.inner (Send part)).1 →
    step.kind ≡ BusyAtOffer → (record w { inner = inner }, record { first = None; then = Busy }) ≡ long_offered now message
busy-offer now w message part inner step n p i s k = from now w message _ n (busy-arm w message inner step (offered-here w message part inner step p i s) k)

pub taken-offer : (now w : LongState) (message part : List ℕ) (inner : WorldState) (step : Step)
    → w ≡ now → part ≡ part_of message 0 → inner ≡ (world_step w.inner (Send part)).0 → step ≡ (world_step w.inner (Send part)).1 →
    (step.kind ≡ OfferDown → ⊥) → (step.kind ≡ BusyAtOffer → ⊥) → started w message (inner, step) ≡ long_offered now message
taken-offer now w message part inner step n p i s no_down no_busy = from now w message _ n (taken-arm w message inner step (offered-here w message part inner step p i s) no_down no_busy)
