-- Packets that are received as transmitted: the whole packet of a message delivers it, and an ACK is received. By the rules.
use Rattle.std.proofs.Common.{◌≡◌, ℕ, zero, suc, ◌+◌, ◌%◌, ◌<◌, ◌≤◌, ◌⊎◌, inl, inr, true, false, eqb, List, [], ◌∷◌, ◌++◌, length, map, Option, Some, None, refl, ap, ap₂, sym, ◌∙◌, subst, arith}
use Rattle.std.proofs.{lemmas.List.{map-append}, lemmas.Bool.{cases_lt, cond-true, cond-false, and_from, eq-eqb, ne_eqb}}
use Rattle.p25_bits.specs.Numbers.{each_below}
use Rattle.p25_bits.proofs.NumbersLaws.{each_below-suc}
use Rattle.p25_packet_blocks.specs.{Heads.{head_is_full, head_blocks, head_number, response_class, response_kind, response_status, response_head, confirmed_head, opening_head}, Parts.{BlockParts}}
use Rattle.p25_packet_blocks.specs.{ConfirmedParts.{ConfirmedParts}, declared.block.Slot.{Slot}, declared.block.Slot.TheVariants.{Good, Bad}}
use Rattle.p25_delivery.specs.{MessageBlocks.{block_count, pad_count, message_block, message_blocks}, Places.{put_slots, all_octets, HoldsSerial, CarriesMessage, unpadded_option, read_back}}
use Rattle.p25_delivery.specs.{SentPackets.{good_slot, message_packet, opening_packet, short_response, ack_packet}, Halves.{Sending, IsNumbered, IsSending, Keeping, Receiving}}
use Rattle.p25_delivery.specs.{Asked.{is_response, is_ack, asked_of}, SenderRules.{sending_after, answered, response_heard, sender_heard, opening_number, reopened}}
use Rattle.p25_delivery.specs.{ReceiverRules.{empty_places, keeping_full, keeping_for, finished, completed, filled, data_heard, receiver_heard}, declared.sender.Outstanding.{Outstanding}}
use Rattle.p25_delivery.specs.{declared.sender.Outstanding.TheVariants.{Nothing, Message, Opening}, Delivery.{Delivery, Session}, AtOnce.{DeliversAtOnce, OpensAtOnce}}
use Rattle.p25_messages.specs.{declared.answers.SenderHeard.TheVariants.{Acknowledged, Opened as SenderOpened}, declared.answers.Heard.TheVariants.{Delivered, Opened}}
use Rattle.p25_delivery.proofs.{CarriedLaws.{slots-read_back}, HeadLaws.{response_head-status, response_head-class, response_head-kind, response_head-format, response_head-llid, confirmed_head-full}}
use Rattle.p25_delivery.proofs.{SentLaws.{counts-small, all-blocks, whole-carries}, ReceiverLaws.{data-is_heard, opening-is_heard}, SenderLaws.{offer-quiet}}
use Rattle.p25_delivery.proofs.PhaseLaws.{IsQuiet, IsDelivering, quiet, busy, opening}

-- an ACK is one, of its status alone

is_ack-ack : (status : ℕ) → status < 8 → is_ack (response_head 1 0 1 status 0) status ≡ true
unfolding is_ack
is_ack-ack status h =
    let class : eqb (response_class (response_head 1 0 1 status 0)) 0 ≡ true = eq-eqb _ 0 (response_head-class 0 1 status 0 (omega arith) h) in
    let kind : eqb (response_kind (response_head 1 0 1 status 0)) 1 ≡ true = eq-eqb _ 1 (response_head-kind 0 1 status 0 (omega arith) h) in
    let number : eqb (response_status (response_head 1 0 1 status 0)) status ≡ true = eq-eqb _ status (response_head-status 0 1 status 0 h) in
    and_from _ _ (and_from _ _ class kind) number

is_response-ack : (status : ℕ) → is_response (response_head 1 0 1 status 0) ≡ true
unfolding is_response
is_response-ack status = and_from _ _ (eq-eqb _ 3 (response_head-format 0 1 status 0)) (eq-eqb _ 1 (response_head-llid 0 1 status 0))

ack-is_heard : (s : Sending) (status : ℕ) → s.down ≡ false → sender_heard s (ack_packet status) ≡ response_heard s.outstanding s (record { head = response_head 1 0 1 status 0; octets = [] })
unfolding sender_heard short_response
ack-is_heard s status d = cond-false s.down _ _ d ∙ cond-true _ _ _ (is_response-ack status)

ack-acknowledges : (s : Sending) (message : List ℕ) → s.down ≡ false → s.outstanding ≡ Message message → s.next < 8 → sender_heard s (ack_packet s.next) ≡ (sending_after s.next, Acknowledged s.next)
unfolding response_heard answered asked_of
ack-acknowledges s message d o h =
    cc (ack-is_heard s s.next d, cond-true _ _ _ (is_ack-ack s.next h))

ack-opens : (s : Sending) (number : ℕ) → s.down ≡ false → s.outstanding ≡ Opening number → number < 8 → sender_heard s (ack_packet number) ≡ (sending_after number, SenderOpened number)
unfolding response_heard
ack-opens s number d o h =
    cc (ack-is_heard s number d, cond-true _ _ _ (is_ack-ack number h))

-- the whole packet of a message carries it

holds-append : (serial : ℕ) (xs ys : List Slot) → HoldsSerial serial xs ⊎ HoldsSerial serial ys → HoldsSerial serial (xs ++ ys)
unfolding HoldsSerial
holds-append serial [] ys (inl h) = absurd h
holds-append serial [] ys (inr h) = h
holds-append serial (Bad ∷ xs) ys h = holds-append serial xs ys h
holds-append serial (Good block ∷ xs) ys (inl (inl e)) = inl e
holds-append serial (Good block ∷ xs) ys (inl (inr h)) = inr (holds-append serial xs ys (inl h))
holds-append serial (Good block ∷ xs) ys (inr h) = inr (holds-append serial xs ys (inr h))

holds-one : (message : List ℕ) (serial : ℕ) → HoldsSerial serial (good_slot (message_block message serial) ∷ [])
unfolding HoldsSerial message_block
holds-one message serial = inl refl

holds-all : (message : List ℕ) (n serial : ℕ) → serial < n → HoldsSerial serial (map good_slot (each_below n (message_block message)))
holds-all message zero serial h = absurd (omega arith)
holds-all message (suc n) serial h =
    let split : map good_slot (each_below (suc n) (message_block message)) ≡ map good_slot (each_below n (message_block message)) ++ good_slot (message_block message n) ∷ []
    = cc (each_below-suc n (message_block message), map-append good_slot (each_below n (message_block message)) (message_block message n ∷ [])) in
    let here : HoldsSerial serial (map good_slot (each_below n (message_block message))) ⊎ HoldsSerial serial (good_slot (message_block message n) ∷ [])
    = elim (cases_lt serial n) [
      | inl less ↦ inl (holds-all message n serial less)
      | inr same ↦ inr (subst (λ (k : ℕ). HoldsSerial k (good_slot (message_block message n) ∷ [])) (omega (arith, same)) (holds-one message n))
    ] in
    rw split (holds-append serial (map good_slot (each_below n (message_block message))) (good_slot (message_block message n) ∷ []) here)

whole-message : (message : List ℕ) → CarriesMessage message (map good_slot (message_blocks message))
unfolding message_blocks
whole-message message = record {
  blocks = all-blocks message (block_count (length message));
  all = holds-all message (block_count (length message));
}

-- the message that is read back is delivered
completed-read_back : (r : Receiving) (number : ℕ) (kept : Keeping) (found : Option (List ℕ)) (message : List ℕ) → unpadded_option found kept.pad ≡ Some message →
    completed r number kept found ≡ (record { last = number; kept = None }, Delivered number message (ack_packet number))
unfolding completed finished unpadded_option
completed-read_back r number kept None message e = cc
completed-read_back r number kept (Some octets) message e = ap (finished r number) e

read : (message : List ℕ) → unpadded_option
    (all_octets (put_slots (empty_places (block_count (length message)) (pad_count (length message))).places (map good_slot (message_blocks message))))
    (pad_count (length message)) ≡ Some message
unfolding read_back
read message = slots-read_back message (map good_slot (message_blocks message)) (whole-message message)

whole-heard : (r : Receiving) (number : ℕ) (message : List ℕ) → r.last < 8 → (r.last + 1) % 8 ≡ number → r.kept ≡ None → length message ≤ 2028 →
    receiver_heard r (message_packet number message) ≡ (record { last = number; kept = None }, Delivered number message (ack_packet number))
unfolding message_packet data_heard filled keeping_for keeping_full
whole-heard r number message small sync none short =
    let blocks = block_count (length message) in
    let pad = pad_count (length message) in
    let packet : ConfirmedParts = record { head = confirmed_head 1 true blocks pad number; slots = map good_slot (message_blocks message) } in
    let c = whole-carries number message (omega (arith, sync)) short in
    let other : eqb (head_number packet.head) r.last ≡ false = ne_eqb (head_number packet.head) r.last (λ e. absurd (omega (arith, e, sync, c.number_is, small))) in
    let next : eqb (head_number packet.head) ((r.last + 1) % 8) ≡ true = eq-eqb (head_number packet.head) ((r.last + 1) % 8) (cc) in
    let full : head_is_full packet.head ≡ true = confirmed_head-full true blocks pad number (counts-small message short).0 in
    let count : head_blocks packet.head ≡ blocks = c.full full in
    let some : eqb (head_blocks packet.head) 0 ≡ false = ne_eqb (head_blocks packet.head) 0 (λ z. absurd (omega (arith, z, count))) in
    let begins : keeping_for r.kept packet.head ≡ Some (empty_places blocks pad)
    = cc (cond-true _ _ _ full, cond-false _ _ _ some) in
    cc (
      data-is_heard r number message packet c,
      cond-false _ _ _ other,
      cond-true _ _ _ next,
      completed-read_back r number (record { places = put_slots (empty_places blocks pad).places packet.slots; pad = pad })
          (all_octets (put_slots (empty_places blocks pad).places packet.slots)) message (read message),
    )

-- a quiet delivery delivers, and a sender that is down opens

delivers-quiet : (last b : ℕ) (s : Session) (w : Delivery) (message : List ℕ) → IsQuiet last b s w → length message ≤ 2028 → DeliversAtOnce w.outbound.sender w.inbound.receiver message
delivers-quiet last b s w message q short =
    let sender = w.outbound.sender in
    let receiver = w.inbound.receiver in
    let sync : (receiver.last + 1) % 8 ≡ sender.next = cc in
    record {
      packet = message_packet sender.next message;
      answer = ack_packet sender.next;
      waits = record { next = sender.next; outstanding = Message message; tries = 1; down = false };
      after = record { last = sender.next; kept = None };
      taken = offer-quiet sender message q.up q.outstanding;
      delivered = whole-heard receiver sender.next message (omega (arith, q.last_is, q.small)) sync q.kept short;
      acknowledged = ack-acknowledges (record { next = sender.next; outstanding = Message message; tries = 1; down = false }) message refl refl (omega (arith, q.next));
    }

pub delivers-delivering : (b : ℕ) (s : Session) (w : Delivery) (message : List ℕ)
    → IsDelivering b s w → w.outbound.sender.outstanding ≡ Nothing → length message ≤ 2028 → DeliversAtOnce w.outbound.sender w.inbound.receiver message
delivers-delivering b s w message (quiet last q) o short = delivers-quiet last b s w message q short
delivers-delivering b s w message (busy number other h) o short = let both : Message other ≡ Nothing = cc in cc
delivers-delivering b s w message (opening number h) o short = let both : Opening number ≡ Nothing = cc in cc

small-opening : (out : Outstanding) (next : ℕ) → IsNumbered out → opening_number out next < 8
unfolding IsNumbered opening_number
small-opening (Opening number) next h = h
small-opening out next h = omega arith

opener-heard : (r : Receiving) (number : ℕ) → number < 8 → receiver_heard r (opening_packet number) ≡ (record { last = number; kept = None }, Opened number (ack_packet number))
unfolding opening_packet
opener-heard r number h = opening-is_heard r number (record { head = opening_head 1 number; slots = [] }) h refl

pub opens-down : (s : Sending) (r : Receiving) → IsSending s → s.down ≡ true → OpensAtOnce s r
unfolding reopened
opens-down s r keeps down =
    let number = opening_number s.outstanding s.next in
    let small : number < 8 = small-opening s.outstanding s.next keeps.outstanding in
    record {
      number = number;
      packet = opening_packet number;
      answer = ack_packet number;
      waits = record { next = s.next; outstanding = Opening number; tries = 1; down = false };
      sent = cond-true s.down _ _ down;
      heard = opener-heard r number small;
      opened = ack-opens (record { next = s.next; outstanding = Opening number; tries = 1; down = false }) number refl refl small;
    }
