-- The transmissions of the steps are those that the sender counts. By the rules, each test taken both ways.
use Rattle.std.proofs.Common.{◌≡◌, ℕ, ◌+◌, ◌≤◌, inl, inr, Bool, true, false, cond, List, [], ◌∷◌, length, Option, refl, ap, sym, subst, ◌∙◌, arith}
use Rattle.p25_packet_blocks.specs.{Parts.{PlainParts}, declared.packet.Packet.{Packet}, declared.packet.Packet.TheVariants.{Confirmed, Plain}}
use Rattle.p25_delivery.specs.{Runs.{run_by, steps_by, EachIs}, MessageBlocks.{block_count}, SentPackets.{message_packet, blocks_packet, opening_packet}}
use Rattle.p25_delivery.specs.{Halves.{Sending, Receiving, Outgoing, Incoming}, Asked.{is_response, is_ack, asked_of}}
use Rattle.p25_delivery.specs.SenderRules.{sending_after, tried, fallen, may_send, offered, resent, timed_out_with, timed_out, repeated, retried, answered, response_heard, sender_heard, opening_number, reopened, is_opening}
use Rattle.p25_delivery.specs.{ReceiverRules.{receiver_heard}, declared.asked.Asked.{Asked}, declared.asked.Asked.TheVariants.{WholeMessage, Blocks}, declared.sender.Outstanding.{Outstanding}}
use Rattle.p25_delivery.specs.{declared.sender.Outstanding.TheVariants.{Nothing, Message, Opening}, HalfRules.{after_offer, after_timeout, after_reopening, after_data, after_answer}}
use Rattle.p25_delivery.specs.{SoundHalves.{IsOutgoing}, Delivery.{Delivery, Happening, Offering, Time_up, Opening_again, Data_heard, Answer_heard, with_outbound, with_inbound, happens}}
use Rattle.p25_messages.specs.{declared.answers.Offer.{Offer}, declared.answers.Offer.TheVariants.{Taken as OfferTaken}, declared.answers.Resend.{Resend}}
use Rattle.p25_messages.specs.{declared.answers.Resend.TheVariants.{Sent, Down as DownAtTimeout}, declared.answers.SenderHeard.{SenderHeard}}
use Rattle.p25_messages.specs.declared.answers.SenderHeard.TheVariants.{Opened as SenderOpened, Retry as HeardRetry, Repeat as HeardRepeat, Ignored as SenderIgnored, Down as DownAtAnswer}
use Rattle.p25_messages.specs.{declared.answers.Reopen.{Reopen as ReopenAnswer}, declared.answers.Reopen.TheVariants.{Sent as ReopenSent, Up as ReopenUp}}
use Rattle.p25_messages.specs.{declared.answers.Heard.{Heard as HeardAnswer}, declared.answers.Heard.TheVariants.{Delivered as HeardDelivered}, declared.step_kind.StepKind.{StepKind}}
use Rattle.p25_delivery.proofs.{SenderLaws.{offer-quiet, offer-message, offer-opening}, HalfLaws.{counted-at, quiet-is}}
use Rattle.p25_stations.specs.{declared.step.Event.{Event}, declared.step.Step.{Step}, WorldState.{WorldState, first_world}, Steps.{world_step}}
use Rattle.p25_stations.specs.Runs.{AreEvents, world_run, steps_of, tries_after, tries_in}
use Rattle.p25_stations.proofs.{StepLaws.{IsQuiet, nothing, Does, rests, does, step-does}, SoundLaws.{IsSoundDelivery, step-sound, run-sound, first-sound}}

-- a step gives the number of transmissions of the outstanding packet after it, from that number before it
abbrev Tells : ℕ → Outgoing × (StepKind × Option Packet) → Type 0
Tells tries x = tries_after tries x.1.0 ≡ x.0.sender.tries

-- An offer.

taken-tries : (o : Outgoing) (message : List ℕ) → o.sender.tries ≡ 0 → (x : Sending × Offer) →
    x ≡ (record { next = o.sender.next; outstanding = Message message; tries = 1; down = false }, OfferTaken o.sender.next (block_count (length message)) (message_packet o.sender.next message)) →
    Tells o.sender.tries (after_offer o message x)
unfolding after_offer
taken-tries o message none x e = rw e (cc)

offer-tries : (o : Outgoing) (message : List ℕ) (out : Outstanding) → o.sender.outstanding ≡ out → IsOutgoing o → Tells o.sender.tries (after_offer o message (offered o.sender message))
unfolding after_offer
offer-tries o message Nothing is sound =
    let quiet = quiet-is o (counted-at o Nothing is sound) in
    taken-tries o message quiet.1 (offered o.sender message) (offer-quiet o.sender message quiet.0 is)
offer-tries o message (Message other) is sound =
    let P : Sending × Offer → Type 0 = λ (y : Sending × Offer). Tells o.sender.tries (after_offer o message y) in
    elim (offer-message o.sender message other is) [ inl e ↦ rw e refl | inr e ↦ rw e refl ]
offer-tries o message (Opening number) is sound =
    let P : Sending × Offer → Type 0 = λ (y : Sending × Offer). Tells o.sender.tries (after_offer o message y) in
    elim (offer-opening o.sender message number is) [ inl e ↦ rw e refl | inr e ↦ rw e refl ]

-- A timeout.

abbrev TimeoutTells : Outgoing → Sending → Sending × Resend → Type 0
TimeoutTells o s x = Tells s.tries (after_timeout o x)

resent-tries : (o : Outgoing) (s : Sending) (number : ℕ) (packet : Packet) → TimeoutTells o s (resent s number packet)
unfolding resent after_timeout
resent-tries o s number packet = elim (may_send s) as (λ (b : Bool). TimeoutTells o s (cond b (tried s, Sent number (s.tries + 1) packet) (fallen s, DownAtTimeout))) [ true ↦ refl | false ↦ refl ]

timed-tries : (o : Outgoing) (out : Outstanding) (s : Sending) → TimeoutTells o s (timed_out_with out s)
unfolding timed_out_with after_timeout
timed-tries o Nothing s = refl
timed-tries o (Message message) s = resent-tries o s s.next (message_packet s.next message)
timed-tries o (Opening number) s = resent-tries o s number (opening_packet number)

timeout-tries : (o : Outgoing) (s : Sending) → TimeoutTells o s (timed_out s)
unfolding timed_out after_timeout
timeout-tries o s = elim s.down as (λ (b : Bool). TimeoutTells o s (cond b (s, DownAtTimeout) (timed_out_with s.outstanding s))) [ true ↦ refl | false ↦ timed-tries o s.outstanding s ]

-- A reopening.

abbrev ReopenTells : Outgoing → ℕ → Bool → Sending → Sending × ReopenAnswer → Type 0
ReopenTells o count again s x = Tells s.tries (after_reopening o count again x)

reopen-tries : (o : Outgoing) (count : ℕ) (again : Bool) (s : Sending) → ReopenTells o count again s (reopened s)
unfolding reopened after_reopening
reopen-tries o count again s =
    let number = opening_number s.outstanding s.next in
    elim s.down as (λ (b : Bool). ReopenTells o count again s
    (cond b (record { next = s.next; outstanding = Opening number; tries = 1; down = false }, ReopenSent number (opening_packet number)) (s, ReopenUp))) [ true ↦ refl | false ↦ refl ]

-- A packet that the receiver receives.

data-tries : (i : Incoming) (tries : ℕ) (x : Receiving × HeardAnswer) → tries_after tries (after_data i x).1.0 ≡ tries
unfolding after_data
data-tries i tries (r, HeardDelivered number message answer) = refl
data-tries i tries x = refl

-- A response that the sender receives.

abbrev AnswerTells : Outgoing → Sending → Sending × SenderHeard → Type 0
AnswerTells o s x = Tells s.tries (after_answer o x)

answered-tries : (o : Outgoing) (asked : Asked) (s : Sending) (message : List ℕ) → AnswerTells o s (answered asked s message)
unfolding answered repeated retried after_answer
answered-tries o WholeMessage s message =
    elim (may_send s) as (λ (b : Bool). AnswerTells o s (cond b (tried s, HeardRepeat s.next (s.tries + 1) (message_packet s.next message)) (fallen s, DownAtAnswer))) [ true ↦ refl | false ↦ refl ]
answered-tries o (Blocks wanted) s message =
    elim (may_send s) as (λ (b : Bool). AnswerTells o s (cond b
    (tried s, HeardRetry s.next wanted (s.tries + 1) (blocks_packet s.next message wanted)) (fallen s, DownAtAnswer))) [ true ↦ refl | false ↦ refl ]
answered-tries o asked s message = refl

response-tries : (o : Outgoing) (out : Outstanding) (s : Sending) (response : PlainParts) → AnswerTells o s (response_heard out s response)
unfolding response_heard after_answer
response-tries o Nothing s response = refl
response-tries o (Message message) s response = answered-tries o (asked_of s.next (block_count (length message)) response) s message
response-tries o (Opening number) s response = elim (is_ack response.head number) as (λ (b : Bool).
    AnswerTells o s (cond b (sending_after number, SenderOpened number) (s, SenderIgnored))) [ true ↦ refl | false ↦ refl ]

answer-tries : (o : Outgoing) (s : Sending) (packet : Packet) → AnswerTells o s (sender_heard s packet)
unfolding sender_heard after_answer
answer-tries o s (Confirmed packet) = refl
answer-tries o s (Plain packet) =
    let heard = response_heard s.outstanding s packet in
    let ours : AnswerTells o s (cond (is_response packet.head) heard (s, SenderIgnored))
    = elim (is_response packet.head) as (λ (b : Bool). AnswerTells o s (cond b heard (s, SenderIgnored))) [ true ↦ response-tries o s.outstanding s packet | false ↦ refl ] in
    elim s.down as (λ (b : Bool). AnswerTells o s (cond b (s, SenderIgnored) (cond (is_response packet.head) heard (s, SenderIgnored)))) [ true ↦ refl | false ↦ ours ]

-- The events of a delivery, every step, and every run.

happening-tries : (w : Delivery) (happening : Happening) → IsOutgoing w.outbound → tries_after w.outbound.sender.tries (happens w happening).1 ≡ (happens w happening).0.outbound.sender.tries
unfolding happens with_outbound with_inbound
happening-tries w (Offering message) sound = offer-tries w.outbound message w.outbound.sender.outstanding refl sound
happening-tries w Time_up sound = timeout-tries w.outbound w.outbound.sender
happening-tries w Opening_again sound = reopen-tries w.outbound (length w.inbound.received) (is_opening w.outbound.sender.outstanding) w.outbound.sender
happening-tries w (Data_heard packet) sound = data-tries w.inbound w.outbound.sender.tries (receiver_heard w.inbound.receiver packet)
happening-tries w (Answer_heard packet) sound = answer-tries w.outbound w.outbound.sender packet

quiet-tries : (kind : StepKind) → IsQuiet kind → (tries : ℕ) → tries_after tries kind ≡ tries
quiet-tries kind (nothing way) tries = refl
quiet-tries kind other tries = refl

tries-told : (w : WorldState) (event : Event) (x : WorldState × Step)
    → Does w event x → IsSoundDelivery w.delivery → tries_after w.delivery.outbound.sender.tries x.1.kind ≡ x.0.delivery.outbound.sender.tries
tries-told w event x (rests kind quiet) sound = quiet-tries kind quiet w.delivery.outbound.sender.tries
tries-told w event x (does happening false_pass has) sound = happening-tries w.delivery happening sound.outbound

run-tries : (events : List Event) (w : WorldState) (tries : ℕ) → tries ≡ w.delivery.outbound.sender.tries → AreEvents events → IsSoundDelivery w.delivery
    → tries_in tries (steps_of w events) ≡ (world_run w events).delivery.outbound.sender.tries
unfolding EachIs run_by steps_by tries_in
run-tries [] w tries e are sound = e
run-tries (event ∷ events) w tries e are sound =
    let next = world_step w event in
    let now : tries_after tries next.1.kind ≡ next.0.delivery.outbound.sender.tries = cc (tries-told w event next (step-does w event) sound) in
    run-tries events next.0 (tries_after tries next.1.kind) now are.1 (step-sound w event are.0 sound)

pub run-sixteen : (events : List Event) → AreEvents events → tries_in 0 (steps_of first_world events) ≤ 16
run-sixteen events are = omega (arith, run-tries events first_world 0 refl are first-sound, (run-sound events first_world are first-sound).outbound.sender.tries)
