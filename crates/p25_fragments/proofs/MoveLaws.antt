-- The effect of an event of a delivery other than an offer, by the type of the step: on the outstanding packet, on V(R), and on the lists. By the
-- rules of the stations, each result in turn.
use Rattle.std.proofs.Common.{◌≡◌, ℕ, ◌+◌, ◌%◌, Bool, true, false, cond, eqb, List, length, Option, Some, None, refl, ap, sym, subst, ◌∙◌}
use Rattle.p25_packet_blocks.specs.{declared.packet.Packet.{Packet}, declared.packet.Packet.TheVariants.{Confirmed, Plain}, ConfirmedParts.{ConfirmedParts}}
use Rattle.p25_packet_blocks.specs.Heads.{head_blocks, head_llid, head_syn, head_number}
use Rattle.p25_delivery.specs.{MessageBlocks.{unpadded}, Places.{put_slots, all_octets}, SentPackets.{station_llid, ack_packet, order_nack_packet, opening_packet}}
use Rattle.p25_delivery.specs.{Halves.{Sending, Keeping, Receiving, first_outgoing, first_incoming}, SenderRules.{timed_out_with, timed_out, sender_heard, opening_number, reopened, is_opening}}
use Rattle.p25_delivery.specs.{ReceiverRules.{keeping_for, finished, completed, filled, opening_heard, data_heard, receiver_heard}, declared.sender.Outstanding.{Outstanding}}
use Rattle.p25_delivery.specs.{declared.sender.Outstanding.TheVariants.{Nothing, Message, Opening}, HalfRules.{after_timeout, after_reopening, after_data, after_answer}}
use Rattle.p25_delivery.specs.Delivery.{Delivery, first_delivery, newest_after, with_outbound, with_inbound, Happening, Offering, Time_up, Opening_again, Data_heard, Answer_heard, happens}
use Rattle.p25_messages.specs.{declared.answers.Resend.{Resend}, declared.answers.Resend.TheVariants.{Sent}, declared.answers.SenderHeard.{SenderHeard}}
use Rattle.p25_messages.specs.{declared.answers.SenderHeard.TheVariants.{Acknowledged as HeardAck, Opened as SenderOpened}, declared.answers.Reopen.{Reopen as ReopenAnswer}}
use Rattle.p25_messages.specs.{declared.answers.Reopen.TheVariants.{Sent as ReopenSent, Up as ReopenUp}, declared.answers.Heard.{Heard as HeardAnswer}}
use Rattle.p25_messages.specs.{declared.answers.Heard.TheVariants.{Opened as ReceiverOpened, Again, RefusedOrder, Ignored as ReceiverIgnored}, declared.step_kind.StepKind.{StepKind}}
use Rattle.p25_messages.specs.declared.step_kind.StepKind.TheVariants.{Acknowledged, Delivered, SynHeard}
use Rattle.p25_delivery.proofs.SenderLaws.{Resends, resent-of, timeout-of, HearsAnswer, goes_on, stays, HearsOpening, opens, waits, RetriesOf, message-answer, opening-answer, quiet-answer}
use Rattle.p25_delivery.proofs.SessionLaws.{one_delivered, one_acknowledged, marked}

-- a step that means nothing for the long messages
unfoldable pub IsPlainKind : StepKind → Type 0
IsPlainKind (Acknowledged number) = ⊥
IsPlainKind (Delivered number message) = ⊥
IsPlainKind (SynHeard number) = ⊥
IsPlainKind other = Unit {0}

-- the lists of a delivery alone
abbrev pub lists_of : Delivery → Delivery
lists_of w =
    record first_delivery {
      outbound = record first_outgoing { sent = w.outbound.sent; acknowledged = w.outbound.acknowledged; marks = w.outbound.marks };
      inbound = record first_incoming { received = w.inbound.received };
    }

abbrev pub outstanding_in : Delivery → Outstanding
outstanding_in w = w.outbound.sender.outstanding

-- a delivery of which the same is outstanding
abbrev pub IsSameIn : Delivery → Delivery → Type 0
IsSameIn v w = outstanding_in w ≡ outstanding_in v

-- a delivery with the same V(R)
abbrev pub HasSameLast : Delivery → Delivery → Type 0
HasSameLast v w = w.inbound.receiver.last ≡ v.inbound.receiver.last

-- the effect of a call that offers no message
pub data Moves (v : Delivery) (happening : Happening) (x : Delivery × StepKind) : Type 0 where
  moves_nothing : IsPlainKind x.1 → IsSameIn v x.0 → HasSameLast v x.0 → lists_of x.0 ≡ lists_of v → Moves v happening x
  ends : (number : ℕ) → IsPlainKind x.1 → v.outbound.sender.down ≡ true → is_opening (outstanding_in v) ≡ false → opening_number (outstanding_in v) v.outbound.sender.next ≡ number →
      outstanding_in x.0 ≡ Opening number → HasSameLast v x.0 →
      lists_of x.0 ≡ marked (lists_of v) → Moves v happening x
  delivers : (number : ℕ) (message : List ℕ) → x.1 ≡ Delivered number message → IsSameIn v x.0 → lists_of x.0 ≡ one_delivered (lists_of v) message → Moves v happening x
  hears_opening : (number : ℕ) (packet : ConfirmedParts) → happening ≡ Data_heard (Confirmed packet)
      → head_syn packet.head ≡ true → x.1 ≡ SynHeard number → IsSameIn v x.0 → lists_of x.0 ≡ lists_of v → Moves v happening x
  acknowledges : (number : ℕ) (message : List ℕ) → x.1 ≡ Acknowledged number → outstanding_in v ≡ Message message → outstanding_in x.0 ≡ Nothing → x.0.outbound.sender.down ≡ false →
      lists_of x.0 ≡ one_acknowledged (lists_of v) → Moves v happening x
  opens_session : (number : ℕ) → IsPlainKind x.1 → outstanding_in v ≡ Opening number
      → outstanding_in x.0 ≡ Nothing → x.0.outbound.sender.next ≡ (number + 1) % 8 → HasSameLast v x.0 → lists_of x.0 ≡ lists_of v → Moves v happening x

-- Time is up.

timed-with : (s : Sending) (out : Outstanding) → Resends (λ packet. Unit {0}) s (timed_out_with out s)
unfolding timed_out_with
timed-with s Nothing = (record { next = refl; outstanding = refl }, tt)
timed-with s (Message message) = resent-of (λ packet. Unit {0}) s s.next _ tt
timed-with s (Opening number) = resent-of (λ packet. Unit {0}) s number _ tt

timed-same : (s : Sending) → (timed_out s).0.outstanding ≡ s.outstanding
timed-same s = (timeout-of (λ packet. Unit {0}) s s.outstanding refl (timed-with s s.outstanding)).0.outstanding

timeout-by : (v : Delivery) (x : Sending × Resend) → x.0.outstanding ≡ outstanding_in v → Moves v Time_up (with_outbound v (after_timeout v.outbound x))
unfolding with_outbound after_timeout newest_after IsPlainKind
timeout-by v (s, Sent number tries packet) o = moves_nothing tt o refl refl
timeout-by v x o = moves_nothing tt o refl refl

-- The session is opened again.

ReopensBy : Delivery → Outstanding → Sending × ReopenAnswer → Type 0
ReopensBy v out x = Moves v Opening_again (with_outbound v (after_reopening v.outbound (length v.inbound.received) (is_opening out) x))

-- if the opening packet is transmitted
opening-sent : (v : Delivery) (out : Outstanding) (number : ℕ) (s : Sending)
    → outstanding_in v ≡ out → v.outbound.sender.down ≡ true → opening_number out v.outbound.sender.next ≡ number → s.outstanding ≡ Opening number →
    ReopensBy v out (s, ReopenSent number (opening_packet number))
unfolding ReopensBy with_outbound after_reopening newest_after IsPlainKind opening_number
opening-sent v (Opening before) number s o d n p = moves_nothing tt (cc) refl refl
opening-sent v out number s o d n p = ends number tt d (ap is_opening o) (cc) p refl refl

reopen-moves : (v : Delivery) → ReopensBy v (outstanding_in v) (reopened v.outbound.sender)
unfolding ReopensBy with_outbound after_reopening newest_after IsPlainKind reopened
reopen-moves v =
    let s = v.outbound.sender in
    let number = opening_number s.outstanding s.next in
    let sent : Sending × ReopenAnswer = (record { next = s.next; outstanding = Opening number; tries = 1; down = false }, ReopenSent number (opening_packet number)) in
    let by : (b : Bool) → s.down ≡ b → ReopensBy v s.outstanding (cond b sent (s, ReopenUp))
    = λ (b : Bool). elim b as (λ (c : Bool). s.down ≡ c → ReopensBy v s.outstanding (cond c sent (s, ReopenUp))) [
      | true ↦ λ (d : s.down ≡ true). opening-sent v s.outstanding number sent.0 refl d refl refl
      | false ↦ λ (d : s.down ≡ false). moves_nothing tt refl refl refl
    ] in
    by s.down refl

-- The receiver receives a packet, which is no opening packet.

HearsBy : Delivery → Happening → Receiving × HeardAnswer → Type 0
HearsBy v happening x = Moves v happening (with_inbound v (after_data v.inbound x))

hears-nothing : (v : Delivery) (h : Happening) → HearsBy v h (v.inbound.receiver, ReceiverIgnored)
unfolding HearsBy with_inbound after_data newest_after IsPlainKind
hears-nothing v h = moves_nothing tt refl refl refl

hears-finished : (v : Delivery) (h : Happening) (number : ℕ) (found : Option (List ℕ)) → HearsBy v h (finished v.inbound.receiver number found)
unfolding HearsBy finished with_inbound after_data newest_after IsPlainKind
hears-finished v h number None = moves_nothing tt refl refl refl
hears-finished v h number (Some message) = delivers number message refl refl refl

hears-completed : (v : Delivery) (h : Happening) (number : ℕ) (kept : Keeping) (found : Option (List ℕ)) → HearsBy v h (completed v.inbound.receiver number kept found)
unfolding HearsBy completed with_inbound after_data newest_after IsPlainKind
hears-completed v h number kept None = moves_nothing tt refl refl refl
hears-completed v h number kept (Some octets) = hears-finished v h number (unpadded octets kept.pad)

hears-filled : (v : Delivery) (h : Happening) (packet : ConfirmedParts) (kept : Option Keeping) → HearsBy v h (filled v.inbound.receiver packet kept)
unfolding filled
hears-filled v h packet None = hears-nothing v h
hears-filled v h packet (Some kept) =
    let places = put_slots kept.places packet.slots in
    hears-completed v h (head_number packet.head) (record { places = places; pad = kept.pad }) (all_octets places)

hears-data : (v : Delivery) (h : Happening) (packet : ConfirmedParts) → HearsBy v h (data_heard v.inbound.receiver packet)
unfolding HearsBy data_heard with_inbound after_data newest_after IsPlainKind
hears-data v h packet =
    let r = v.inbound.receiver in
    let next = filled r packet (keeping_for r.kept packet.head) in
    let other : Receiving × HeardAnswer = (r, RefusedOrder r.last (order_nack_packet r.last)) in
    let again : Receiving × HeardAnswer = (r, Again r.last (ack_packet r.last)) in
    let is_next = eqb (head_number packet.head) ((r.last + 1) % 8) in
    let new : HearsBy v h (cond is_next next other)
    = elim is_next as (λ (b : Bool). HearsBy v h (cond b next other)) [ true ↦ hears-filled v h packet (keeping_for r.kept packet.head) | false ↦ moves_nothing tt refl refl refl ] in
    elim (eqb (head_number packet.head) r.last) as (λ (b : Bool). HearsBy v h (cond b again (cond is_next next other))) [ true ↦ moves_nothing tt refl refl refl | false ↦ new ]

-- Or one that is.
hears-syn : (v : Delivery) (packet : ConfirmedParts) → head_syn packet.head ≡ true → HearsBy v (Data_heard (Confirmed packet)) (opening_heard v.inbound.receiver packet.head)
unfolding HearsBy opening_heard with_inbound after_data newest_after IsPlainKind
hears-syn v packet syn =
    let r = v.inbound.receiver in
    let number = head_number packet.head in
    let opened : Receiving × HeardAnswer = (record { last = number; kept = None }, ReceiverOpened number (ack_packet number)) in
    elim (eqb (head_blocks packet.head) 0) as (λ (b : Bool). HearsBy v (Data_heard (Confirmed packet)) (cond b opened (r, ReceiverIgnored))) [
      | true ↦ hears_opening number packet refl syn refl refl refl
      | false ↦ hears-nothing v (Data_heard (Confirmed packet))
    ]

hears-moves : (v : Delivery) (packet : Packet) → HearsBy v (Data_heard packet) (receiver_heard v.inbound.receiver packet)
unfolding receiver_heard
hears-moves v (Plain packet) = hears-nothing v (Data_heard (Plain packet))
hears-moves v (Confirmed packet) =
    let h = Data_heard (Confirmed packet) in
    let r = v.inbound.receiver in
    let syn = opening_heard r packet.head in
    let more = data_heard r packet in
    let by : (b : Bool) → head_syn packet.head ≡ b → HearsBy v h (cond b syn more)
    = λ (b : Bool). elim b as (λ (c : Bool). head_syn packet.head ≡ c → HearsBy v h (cond c syn more)) [
      | true ↦ λ (e : head_syn packet.head ≡ true). hears-syn v packet e
      | false ↦ λ (e : head_syn packet.head ≡ false). hears-data v h packet
    ] in
    elim (eqb (head_llid packet.head) station_llid) as (λ (b : Bool). HearsBy v h (cond b (cond (head_syn packet.head) syn more) (r, ReceiverIgnored)))
    [ true ↦ by (head_syn packet.head) refl | false ↦ hears-nothing v h ]

-- The sender receives a response.

AnswersBy : Delivery → Packet → Sending × SenderHeard → Type 0
AnswersBy v packet x = Moves v (Answer_heard packet) (with_outbound v (after_answer v.outbound x))

answer-same : (v : Delivery) (packet : Packet) (number : ℕ) (message : List ℕ) (x : Sending × SenderHeard) → x.0.outstanding ≡ outstanding_in v → RetriesOf number message x.1 → AnswersBy v packet x
unfolding AnswersBy with_outbound after_answer newest_after IsPlainKind
answer-same v packet number message (s, HeardAck n) o r = absurd r
answer-same v packet number message (s, SenderOpened n) o r = absurd r
answer-same v packet number message x o r = moves_nothing tt o refl refl

answer-message : (v : Delivery) (message : List ℕ) (packet : Packet) (x : Sending × SenderHeard)
    → outstanding_in v ≡ Message message → HearsAnswer v.outbound.sender message packet x → AnswersBy v packet x
unfolding AnswersBy with_outbound after_answer newest_after
answer-message v message packet x o (goes_on a e) = rw e (acknowledges v.outbound.sender.next message refl o refl refl refl)
answer-message v message packet x o (stays s) = answer-same v packet v.outbound.sender.next message x s.0.outstanding s.1

answer-opening : (v : Delivery) (number : ℕ) (packet : Packet) (x : Sending × SenderHeard) → outstanding_in v ≡ Opening number → HearsOpening v.outbound.sender number packet x → AnswersBy v packet x
unfolding AnswersBy with_outbound after_answer newest_after IsPlainKind
answer-opening v number packet x o (opens a e) = rw e (opens_session number tt o refl refl refl refl)
answer-opening v number packet x o (waits e) = rw e (moves_nothing tt refl refl refl)

answer-by : (v : Delivery) (packet : Packet) (out : Outstanding) → outstanding_in v ≡ out → AnswersBy v packet (sender_heard v.outbound.sender packet)
unfolding AnswersBy with_outbound after_answer newest_after IsPlainKind
answer-by v packet Nothing o = rw (quiet-answer v.outbound.sender packet o) (moves_nothing tt refl refl refl)
answer-by v packet (Message message) o = answer-message v message packet _ o (message-answer v.outbound.sender message packet o)
answer-by v packet (Opening number) o = answer-opening v number packet _ o (opening-answer v.outbound.sender number packet o)

-- Whatever happens, but an offer.

unfoldable pub IsNoOffering : Happening → Type 0
IsNoOffering (Offering message) = ⊥
IsNoOffering other = Unit {0}

pub happens-moves : (v : Delivery) (happening : Happening) → IsNoOffering happening → Moves v happening (happens v happening)
unfolding IsNoOffering happens ReopensBy HearsBy AnswersBy
happens-moves v (Offering message) is = absurd is
happens-moves v Time_up is = timeout-by v (timed_out v.outbound.sender) (timed-same v.outbound.sender)
happens-moves v Opening_again is = reopen-moves v
happens-moves v (Data_heard packet) is = hears-moves v packet
happens-moves v (Answer_heard packet) is = answer-by v packet (outstanding_in v) refl
