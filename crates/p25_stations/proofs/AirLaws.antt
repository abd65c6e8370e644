-- The guarantees of the channel: a received packet that is no false pass is true to the transmitted one, and one that arrives within the correction
-- radius is received as transmitted. By the tests of a false pass, and the law of packets within the correction radius.
use Rattle.std.proofs.Common.{subst, ◌≡◌, ℕ, ◌*◌, ◌<◌, inl, inr, Bool, true, false, cond, eqb, ◌&&◌, not, List, [], ◌∷◌, length, get_or, replicate, Result, Ok, Err, refl, ap, ap₂, sym, ◌∙◌, arith}
use Rattle.std.proofs.{lemmas.Bool.{and_parts, and_from, eq-eqb, ne_eqb, cond-true, cond-false, eqb-true, not-false}, lemmas.List.{length-replicate}, lemmas.Slice.Eq.{bytes_eq-Decides}}
use Rattle.std.specs.{Prelude.{◌↔◌}, Str.{bytes_eq}, Cmp.Lexicographic.{same_text}}
use Rattle.p25_status.specs.{declared.symbols.Status.{Status}, declared.fields.Field.{Field}}
use Rattle.p25_packet_blocks.specs.{declared.head.PacketHead.{PacketHead}, declared.block.Slot.{Slot}, declared.block.Slot.TheVariants.{Good, Bad}, declared.packet.Packet.{Packet}}
use Rattle.p25_packet_blocks.specs.{declared.packet.Packet.TheVariants.{Confirmed, Plain}, Heads.{head_blocks}, Whole.{packet_head, IsWholePacket}, Lengths.{packet_parts}}
use Rattle.p25_packet_blocks.specs.{Parts.{BlockParts, PlainParts}, Sendable.{IsSendable}, UnitReading.{packet_unit_of}, Within.{IsPacketWithin, IsSending, sent_unit}}
use Rattle.p25_delivery.specs.Orderly.{AreTrueSlots, IsTrueTo}
use Rattle.p25_stations.specs.declared.air.Carried.TheVariants.{Lost, Foreign, Heard}
use Rattle.p25_stations.specs.Air.{station_nac, station_status, transmission_of, received_bits, is_true_slot, are_true_slots, is_true_to, carried_from, carried_of, ArrivesWithin}

-- The tests of a false pass agree with their definitions.

same-octets : (xs ys : List ℕ) → bytes_eq xs ys ≡ true → xs ≡ ys
same-octets xs ys e = same_text xs ys (sym e)

same-block : (was block : BlockParts) → eqb was.serial block.serial && bytes_eq was.octets block.octets ≡ true → block ≡ was
same-block was block e =
    let parts = and_parts _ _ e in
    rw (← eqb-true was.serial block.serial parts.0, ← same-octets was.octets block.octets parts.1)

true-slots : (sent heard : List Slot) → are_true_slots sent heard ≡ true → AreTrueSlots sent heard
unfolding are_true_slots is_true_slot AreTrueSlots
true-slots [] [] e = tt
true-slots (was ∷ sent) (Bad ∷ heard) e = (inl refl, true-slots sent heard (and_parts (is_true_slot was Bad) _ e).1)
true-slots (Good was ∷ sent) (Good block ∷ heard) e =
    let parts = and_parts _ _ e in
    (inr (cc (same-block was block parts.0)), true-slots sent heard parts.1)
true-slots sent heard e = cc

same-head : (was head : PacketHead) → bytes_eq was.0 head.0 ≡ true → head ≡ was
same-head was head e = rw (← same-octets was.0 head.0 e)

true-packet : (sent heard : Packet) → is_true_to sent heard ≡ true → IsTrueTo sent heard
unfolding is_true_to IsTrueTo
true-packet (Confirmed sent) (Confirmed heard) e =
    let parts = and_parts _ _ e in
    (same-head sent.head heard.head parts.0, true-slots sent.slots heard.slots parts.1)
true-packet (Plain sent) (Plain heard) e =
    let parts = and_parts _ _ e in
    rw (same-head sent.head heard.head parts.0, ← same-octets sent.octets heard.octets parts.1)
true-packet sent heard e = cc

heard-same : (sent read packet : Packet) (false_pass : Bool) → Heard read (not (is_true_to sent read)) ≡ Heard packet false_pass → false_pass ≡ not (is_true_to sent packet)
heard-same sent read packet false_pass h = cc

heard-true : (sent : Packet) (reading : Result (ℕ × Packet) Field) (packet : Packet) (false_pass : Bool)
    → carried_from sent reading ≡ Heard packet false_pass → false_pass ≡ not (is_true_to sent packet)
unfolding carried_from
heard-true sent (Err field) packet false_pass e = cc
heard-true sent (Ok (nac, read)) packet false_pass e =
    let own : (b : Bool) → cond b (Heard read (not (is_true_to sent read))) Foreign ≡ Heard packet false_pass → false_pass ≡ not (is_true_to sent packet)
    = λ (b : Bool). elim b as (λ (x : Bool). cond x (Heard read (not (is_true_to sent read))) Foreign ≡ Heard packet false_pass → false_pass ≡ not (is_true_to sent packet)) [
      | true ↦ λ h. heard-same sent read packet false_pass h
      | false ↦ λ h. cc
    ] in
    own (eqb nac station_nac) e

-- the law of the air
pub air-true : (sent : Packet) (flips : List ℕ) (packet : Packet) → carried_of sent flips ≡ Heard packet false → IsTrueTo sent packet
unfolding carried_of
air-true sent flips packet e =
    true-packet sent packet (not-false (is_true_to sent packet) (sym (heard-true sent (packet_unit_of (received_bits sent flips)) packet false e)))

-- A packet is true to itself.

itself : (xs : List ℕ) → bytes_eq xs xs ≡ true
itself xs = (bytes_eq-Decides xs xs).1 refl

slots-itself : (slots : List Slot) → are_true_slots slots slots ≡ true
unfolding are_true_slots is_true_slot
slots-itself [] = refl
slots-itself (Bad ∷ slots) = slots-itself slots
slots-itself (Good block ∷ slots) = and_from _ _ (and_from _ _ (eq-eqb block.serial block.serial refl) (itself block.octets)) (slots-itself slots)

packet-itself : (packet : Packet) → is_true_to packet packet ≡ true
unfolding is_true_to
packet-itself (Confirmed packet) = and_from _ _ (itself packet.head.0) (slots-itself packet.slots)
packet-itself (Plain packet) = and_from _ _ (itself packet.head.0) (itself packet.octets)

-- and the tests pass if the definitions hold
true-tests : (sent heard : List Slot) → AreTrueSlots sent heard → are_true_slots sent heard ≡ true
unfolding are_true_slots is_true_slot AreTrueSlots
true-tests [] [] t = refl
true-tests (was ∷ sent) (Bad ∷ heard) t = true-tests sent heard t.1
true-tests (Bad ∷ sent) (Good block ∷ heard) (inl e, t) = cc
true-tests (Bad ∷ sent) (Good block ∷ heard) (inr e, t) = cc
true-tests (Good was ∷ sent) (Good block ∷ heard) (inl e, t) = cc
true-tests (Good was ∷ sent) (Good block ∷ heard) (inr e, t) =
    let same : was ≡ block = cc in
    let P : BlockParts → Type 0 = λ (b : BlockParts). (eqb was.serial b.serial && bytes_eq was.octets b.octets) ≡ true in
    and_from _ _ (subst P same (and_from _ _ (eq-eqb was.serial was.serial refl) (itself was.octets))) (true-tests sent heard t)
true-tests sent heard t = absurd t

pub true-exactly : (sent heard : Packet) → IsTrueTo sent heard ↔ (is_true_to sent heard ≡ true)
unfolding is_true_to IsTrueTo
true-exactly (Confirmed sent) (Confirmed heard) =
    let P : PacketHead → Type 0 = λ (h : PacketHead). bytes_eq sent.head.0 h.0 ≡ true in (
      λ (t : (heard.head ≡ sent.head) × AreTrueSlots sent.slots heard.slots).
          and_from _ _ (rw t.0 (itself sent.head.0)) (true-tests sent.slots heard.slots t.1),
      true-packet (Confirmed sent) (Confirmed heard),
    )
true-exactly (Plain sent) (Plain heard) =
    let P : PlainParts → Type 0 = λ (p : PlainParts). (bytes_eq sent.head.0 p.head.0 && bytes_eq sent.octets p.octets) ≡ true in
    (λ (e : heard ≡ sent). rw e (and_from _ _ (itself sent.head.0) (itself sent.octets)), true-packet (Plain sent) (Plain heard))
true-exactly sent heard = (λ t. absurd t, true-packet sent heard)

-- Within the correction radius.

-- a transmitted data unit that is correctable decodes to its network access code and packet
abbrev pub ReadsWithin : Type 0
ReadsWithin = (nac : ℕ) (packet : Packet) (statuses : List Status) (received : List Bool)
    → IsSending nac packet statuses → IsPacketWithin packet (sent_unit nac packet statuses) received → packet_unit_of received ≡ Ok (nac, packet)

is-sending : (packet : Packet) → IsSendable packet → IsSending station_nac packet (replicate (packet_parts (head_blocks (packet_head packet))) station_status)
is-sending packet sendable = record {
  nac_fits = omega arith;
  sendable = sendable;
  counted = cc (length-replicate (packet_parts (head_blocks (packet_head packet))) station_status);
}

own-heard : (sent : Packet) → carried_from sent (Ok (station_nac, sent)) ≡ Heard sent false
unfolding carried_from
own-heard sent = cc (packet-itself sent)

pub air-within : ReadsWithin → (sent : Packet) (flips : List ℕ) → IsSendable sent → ArrivesWithin sent flips → carried_of sent flips ≡ Heard sent false
unfolding carried_of ArrivesWithin transmission_of
air-within reads sent flips sendable within =
    cc (
      reads station_nac sent (replicate (packet_parts (head_blocks (packet_head sent))) station_status)
          (received_bits sent flips) (is-sending sent sendable) within,
      own-heard sent,
    )

-- The decoding by the code.

pub carried-lost : (sent : Packet) (flips : List ℕ) (field : Field) → packet_unit_of (received_bits sent flips) ≡ Err field → carried_of sent flips ≡ Lost field
unfolding carried_of carried_from
carried-lost sent flips field e = ap (carried_from sent) e

pub carried-foreign : (sent : Packet) (flips : List ℕ) (nac : ℕ) (packet : Packet)
    → packet_unit_of (received_bits sent flips) ≡ Ok (nac, packet) → (nac ≡ station_nac → ⊥) → carried_of sent flips ≡ Foreign
unfolding carried_of carried_from
carried-foreign sent flips nac packet e other = cc (cond-false (eqb nac station_nac) _ _ (ne_eqb _ _ other))

pub carried-heard : (sent : Packet) (flips : List ℕ) (nac : ℕ) (packet : Packet)
    → packet_unit_of (received_bits sent flips) ≡ Ok (nac, packet) → nac ≡ station_nac → carried_of sent flips ≡ Heard packet (not (is_true_to sent packet))
unfolding carried_of carried_from
carried-heard sent flips nac packet e own = rw e (cond-true (eqb nac station_nac) _ _ (eq-eqb _ _ own))

-- A sendable packet has no slot that is `Bad`.
pub sendable-whole : (packet : Packet) → IsSendable packet → IsWholePacket packet
unfolding IsSendable IsWholePacket
sendable-whole (Confirmed packet) sendable = record {
  at = λ (j : ℕ) (h : j < length packet.slots) (e : get_or packet.slots j Bad ≡ Bad).
      let good = sendable.good.at j (omega (arith, sendable.kind.count)) in
      cc (good.1);
}
sendable-whole (Plain packet) sendable = tt
