-- The state and the results of a receiver, whatever it receives: V(R) has three bits, at most 127 blocks are kept, and its response is sendable. By
-- the rules, each test taken both ways.
use Rattle.std.proofs.Common.{◌≡◌, ℕ, ◌+◌, ◌-◌, ◌%◌, ◌<◌, ◌≤◌, ◌⊎◌, inl, inr, Bool, true, false, cond, eqb, ◌&&◌, List, ◌++◌, length, map, replicate, Option, Some, None, ap₂, ◌∙◌, arith, length-append}
use Rattle.std.proofs.{lemmas.List.{length-map, length-replicate}, lemmas.Bool.{cases_lt, cond-true, cond-false, le-leb, leb-true, false_from_ne_true}}
use Rattle.std.specs.Prelude.{nat_le, is_some, IfSome}
use Rattle.p25_packet_blocks.specs.{declared.head.PacketHead.{PacketHead}, declared.packet.Packet.{Packet}, declared.packet.Packet.TheVariants.{Confirmed, Plain}}
use Rattle.p25_packet_blocks.specs.{Heads.{head_is_full, head_blocks, head_pad, head_llid, head_syn, head_number}, Parts.{BlockParts}, ConfirmedParts.{ConfirmedParts}, Sendable.{IsSendable}}
use Rattle.p25_delivery.specs.{MessageBlocks.{unpadded}, Places.{put_slots, all_octets, flag_count, held_flags}, SentPackets.{station_llid, ack_packet, order_nack_packet}, Halves.{Keeping, Receiving}}
use Rattle.p25_delivery.specs.{ReceiverRules.{empty_places, keeping_full, keeping_for, finished, completed, filled, opening_heard, data_heard, receiver_heard}, SoundHalves.{IsReceiving}}
use Rattle.p25_messages.specs.{AnswerSteps.{receiver_step}, declared.answers.Heard.{Heard}, declared.answers.Heard.TheVariants.{Opened, Again, RefusedOrder, Ignored}}
use Rattle.p25_delivery.proofs.{PlacesLaws.{length-put_slots}, SendableLaws.{short_response-sendable, retry_packet-sendable}}
use Rattle.p25_packet_blocks.proofs.HeadLaws.{head_blocks-lt}

-- the response, if there is one, can be transmitted
abbrev pub AnswersSendable : Heard → Type 0
AnswersSendable heard = IfSome (receiver_step heard).1 IsSendable

abbrev pub HearsSoundly : Receiving × Heard → Type 0
HearsSoundly x = IsReceiving x.0 × AnswersSendable x.1

-- numbers of a header

number-small : (head : PacketHead) → head_number head < 8
unfolding head_number
number-small head = omega arith

-- as many flags as fill one block, or two
held-flags : (places : List (Option BlockParts)) → length places ≤ 127 → (length (held_flags places) ≡ 64) ⊎ (length (held_flags places) ≡ 128)
unfolding held_flags
held-flags places few =
    let n = length places in
    let all : length (map is_some places ++ replicate (flag_count n - n) false) ≡ n + (flag_count n - n)
    = cc (length-append (map is_some places) (replicate (flag_count n - n) false), length-map places is_some, length-replicate {A = Bool} (flag_count n - n) false) in
    elim (cases_lt 64 n) [
      | inl more ↦
          (let count : flag_count n ≡ 128 = cond-false (nat_le n 64) 64 128 (false_from_ne_true _ (λ fits. omega (arith, more, leb-true _ _ fits))) in
          inr (omega (arith, all, count)))
      | inr less ↦
          (let count : flag_count n ≡ 64 = cond-true (nat_le n 64) 64 128 (le-leb _ _ less) in
          inl (omega (arith, all, count)))
    ]

-- the blocks kept while a packet is received

-- at most 127 blocks are kept
abbrev IsFew : Keeping → Type 0
IsFew kept = length kept.places ≤ 127

full-few : (kept : Option Keeping) (blocks pad : ℕ) → blocks < 128 → IfSome kept IsFew → IsFew (keeping_full kept blocks pad)
unfolding keeping_full
full-few None blocks pad b k = omega (arith, length-replicate {A = Option BlockParts} blocks None)
full-few (Some kept) blocks pad b k =
    elim (eqb (length kept.places) blocks && eqb kept.pad pad) as (λ (same : Bool). IsFew (cond same kept (empty_places blocks pad))) [
      | true ↦ k
      | false ↦ omega (arith, length-replicate {A = Option BlockParts} blocks None)
    ]

keeping-few : (kept : Option Keeping) (head : PacketHead) → IfSome kept IsFew → IfSome (keeping_for kept head) IsFew
unfolding keeping_for
keeping-few kept head k =
    let full = Some (keeping_full kept (head_blocks head) (head_pad head)) in
    let some : IfSome (cond (eqb (head_blocks head) 0) None full) IsFew
    = elim (eqb (head_blocks head) 0) as (λ (b : Bool). IfSome (cond b None full) IsFew) [ true ↦ tt | false ↦ full-few kept (head_blocks head) (head_pad head) (head_blocks-lt head) k ] in
    elim (head_is_full head) as (λ (b : Bool). IfSome (cond b (cond (eqb (head_blocks head) 0) None full) kept) IsFew) [ true ↦ some | false ↦ k ]

-- the result for the receiver

finished-soundly : (r : Receiving) (number : ℕ) (found : Option (List ℕ)) → number < 8 → IsReceiving r → HearsSoundly (finished r number found)
unfolding finished
finished-soundly r number None n h = (record { last = h.last; kept = tt }, short_response-sendable 1 1 number (omega arith) (omega arith) n)
finished-soundly r number (Some message) n h = (record { last = n; kept = tt }, short_response-sendable 0 1 number (omega arith) (omega arith) n)

completed-soundly : (r : Receiving) (number : ℕ) (kept : Keeping) (found : Option (List ℕ)) → number < 8 → IsFew kept → IsReceiving r → HearsSoundly (completed r number kept found)
unfolding completed
completed-soundly r number kept None n few h = (record { last = h.last; kept = few }, retry_packet-sendable number (held_flags kept.places) n (held-flags kept.places few))
completed-soundly r number kept (Some octets) n few h = finished-soundly r number (unpadded octets kept.pad) n h

filled-soundly : (r : Receiving) (packet : ConfirmedParts) (kept : Option Keeping) → IfSome kept IsFew → IsReceiving r → HearsSoundly (filled r packet kept)
unfolding filled
filled-soundly r packet None few h = (h, tt)
filled-soundly r packet (Some kept) few h =
    let places = put_slots kept.places packet.slots in
    let still : length places ≤ 127 = omega (arith, few, length-put_slots kept.places packet.slots) in
    completed-soundly r (head_number packet.head) (record { places = places; pad = kept.pad }) (all_octets places) (number-small packet.head) still h

opening-soundly : (r : Receiving) (head : PacketHead) → IsReceiving r → HearsSoundly (opening_heard r head)
unfolding opening_heard
opening-soundly r head h =
    let number = head_number head in
    let small = number-small head in
    elim (eqb (head_blocks head) 0) as (λ (b : Bool). HearsSoundly (cond b (record { last = number; kept = None }, Opened number (ack_packet number)) (r, Ignored))) [
      | true ↦ (record { last = small; kept = tt }, short_response-sendable 0 1 number (omega arith) (omega arith) small)
      | false ↦ (h, tt)
    ]

data-soundly : (r : Receiving) (packet : ConfirmedParts) → IsReceiving r → HearsSoundly (data_heard r packet)
unfolding data_heard
data-soundly r packet h =
    let next = filled r packet (keeping_for r.kept packet.head) in
    let other : Receiving × Heard = (r, RefusedOrder r.last (order_nack_packet r.last)) in
    let again : Receiving × Heard = (r, Again r.last (ack_packet r.last)) in
    let new : HearsSoundly (cond (eqb (head_number packet.head) ((r.last + 1) % 8)) next other)
    = elim (eqb (head_number packet.head) ((r.last + 1) % 8)) as (λ (b : Bool). HearsSoundly (cond b next other)) [
      | true ↦ filled-soundly r packet (keeping_for r.kept packet.head) (keeping-few r.kept packet.head h.kept) h
      | false ↦ (h, short_response-sendable 1 5 r.last (omega arith) (omega arith) h.last)
    ] in
    elim (eqb (head_number packet.head) r.last) as (λ (b : Bool). HearsSoundly (cond b again (cond (eqb (head_number packet.head) ((r.last + 1) % 8)) next other))) [
      | true ↦ (h, short_response-sendable 0 1 r.last (omega arith) (omega arith) h.last)
      | false ↦ new
    ]

pub receiver-soundly : (r : Receiving) (packet : Packet) → IsReceiving r → HearsSoundly (receiver_heard r packet)
unfolding receiver_heard
receiver-soundly r (Plain packet) h = (h, tt)
receiver-soundly r (Confirmed packet) h =
    let opening = opening_heard r packet.head in
    let more = data_heard r packet in
    let ours : HearsSoundly (cond (head_syn packet.head) opening more)
    = elim (head_syn packet.head) as (λ (b : Bool). HearsSoundly (cond b opening more)) [ true ↦ opening-soundly r packet.head h | false ↦ data-soundly r packet h ] in
    elim (eqb (head_llid packet.head) station_llid) as (λ (b : Bool). HearsSoundly (cond b (cond (head_syn packet.head) opening more) (r, Ignored))) [ true ↦ ours | false ↦ (h, tt) ]
