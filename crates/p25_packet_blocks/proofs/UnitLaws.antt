-- The packet of a transmitted data unit by its cases: each arm with the facts that choose it.
use Rattle.std.proofs.Common.{◌≡◌, ◌≢◌, ℕ, ◌<◌, ◌≤◌, Bool, true, false, eqb, leb, List, ◌++◌, length, take, Ok, Err, Some, None, refl, sym, ◌∙◌, arith}
use Rattle.std.proofs.{lemmas.Bool.{cond-true, cond-false, eq-eqb, ne_eqb, le-leb, false_from_ne_true, leb-true}, lemmas.List.{take-append-le}}
use Rattle.p25_bits.specs.Bits.{part}
use Rattle.p25_bits.proofs.PartLaws.{part-take}
use Rattle.p25_status.specs.{declared.fields.Field.{Field}, declared.fields.Field.TheVariants.{Sync, Nid, Duid, Length}, Sync.{has_sync}, Woven.{bare_of}}
use Rattle.p25_unit_front.specs.Front.{identifier_of}
use Rattle.p25_trellis.specs.Nearest.{half_octets}
use Rattle.p25_packet_blocks.specs.{declared.head.PacketHead.{PacketHead}, declared.head.ReadHead.{ReadHead}, declared.packet.Packet.{Packet}, Heads.{head_blocks}, Lengths.{packet_sent_length}}
use Rattle.p25_packet_blocks.specs.Reading.{head_from, read_head_of, packet_of_head}
use Rattle.p25_packet_blocks.specs.UnitReading.{sent_header_bits, sent_head_of, sent_read_of, sent_from, sent_packet_of, with_nac, identified_packet_of, packet_unit_of}
use Rattle.p25_packet_blocks.proofs.OutcomeLaws.{IsReadHead-of, head_from-unread}

pub sent_header_bits-is : (sent : List Bool) → sent_header_bits sent ≡ part 114 28 sent ++ part 144 70 sent ++ part 216 70 sent ++ part 288 28 sent
unfolding sent_header_bits
sent_header_bits-is sent = refl

pub sent_head_of-is : (sent : List Bool) → sent_head_of sent ≡ head_from (half_octets (sent_header_bits sent))
unfolding sent_head_of
sent_head_of-is sent = refl

-- the header depends on the first 316 bits alone
pub sent_header_bits-take : (count : ℕ) (sent : List Bool) → 316 ≤ count → sent_header_bits (take count sent) ≡ sent_header_bits sent
unfolding sent_header_bits
sent_header_bits-take count sent long =
    let join : List Bool → List Bool → List Bool = λ xs ys. xs ++ ys in
    cc (part-take 114 28 count sent (omega arith), part-take 144 70 count sent (omega arith), part-take 216 70 count sent (omega arith), part-take 288 28 count sent (omega arith))

pub sent_head_of-take : (count : ℕ) (sent : List Bool) → 316 ≤ count → sent_head_of (take count sent) ≡ sent_head_of sent
sent_head_of-take count sent long =
    simp (sent_head_of-is, sent_header_bits-take)

pub sent_head_of-append : (sent more : List Bool) → 316 ≤ length sent → sent_head_of (sent ++ more) ≡ sent_head_of sent
sent_head_of-append sent more long =
    cc (sent_head_of-take 316 (sent ++ more) (omega arith), take-append-le 316 sent more long, sent_head_of-take 316 sent (omega arith))

-- So do its bit errors.

pub sent_read_of-is : (sent : List Bool) → sent_read_of sent ≡ read_head_of (sent_header_bits sent)
unfolding sent_read_of
sent_read_of-is sent = refl

pub sent_read_of-take : (count : ℕ) (sent : List Bool) → 316 ≤ count → sent_read_of (take count sent) ≡ sent_read_of sent
unfolding sent_read_of
sent_read_of-take count sent long = simp sent_header_bits-take

pub sent_read_of-append : (sent more : List Bool) → 316 ≤ length sent → sent_read_of (sent ++ more) ≡ sent_read_of sent
sent_read_of-append sent more long =
    cc (sent_read_of-take 316 (sent ++ more) (omega arith), take-append-le 316 sent more long, sent_read_of-take 316 sent (omega arith))

-- the header alone
pub sent_head_of-read : (sent : List Bool) (read : ReadHead) → sent_read_of sent ≡ Ok read → sent_head_of sent ≡ Ok read.head
sent_head_of-read sent read e = sent_head_of-is sent ∙ (IsReadHead-of (sent_header_bits sent) read (sym (sent_read_of-is sent) ∙ e)).head

pub sent_head_of-unread : (sent : List Bool) (field : Field) → sent_read_of sent ≡ Err field → sent_head_of sent ≡ Err field
sent_head_of-unread sent field e = sent_head_of-is sent ∙ head_from-unread (sent_header_bits sent) field (sym (sent_read_of-is sent) ∙ e)

-- From the header on.

pub sent_packet_of-bad : (sent : List Bool) (field : Field) → sent_head_of sent ≡ Err field → sent_packet_of sent ≡ Err field
unfolding sent_packet_of sent_from
sent_packet_of-bad sent field is = rw is refl

pub sent_packet_of-short : (sent : List Bool) (head : PacketHead) → sent_head_of sent ≡ Ok head → length sent < packet_sent_length (head_blocks head) → sent_packet_of sent ≡ Err Length
unfolding sent_packet_of sent_from
sent_packet_of-short sent head is short =
    rw is (cond-false (leb (packet_sent_length (head_blocks head)) (length sent)) _ _ (false_from_ne_true _ (λ fits. omega (arith, leb-true _ _ fits))))

pub sent_packet_of-whole : (sent : List Bool) (head : PacketHead) → sent_head_of sent ≡ Ok head → packet_sent_length (head_blocks head) ≤ length sent
    → sent_packet_of sent ≡ packet_of_head head (bare_of (take (packet_sent_length (head_blocks head)) sent))
unfolding sent_packet_of sent_from
sent_packet_of-whole sent head is fits = rw is (cond-true (leb (packet_sent_length (head_blocks head)) (length sent)) _ _ (le-leb _ _ fits))

-- From the sync on.

pub packet_unit_of-sync : (sent : List Bool) → has_sync sent ≡ false → packet_unit_of sent ≡ Err Sync
unfolding packet_unit_of
packet_unit_of-sync sent none = cond-false (has_sync sent) _ _ none

synced : (sent : List Bool) → has_sync sent ≡ true → packet_unit_of sent ≡ identified_packet_of (identifier_of sent) sent
unfolding packet_unit_of
synced sent some = cond-true (has_sync sent) _ _ some

pub packet_unit_of-nid : (sent : List Bool) → has_sync sent ≡ true → identifier_of sent ≡ None → packet_unit_of sent ≡ Err Nid
unfolding identified_packet_of
packet_unit_of-nid sent some none = simp (synced, none)

pub packet_unit_of-duid : (sent : List Bool) (nid : ℕ × ℕ) → has_sync sent ≡ true → identifier_of sent ≡ Some nid → nid.1 ≢ 12 → packet_unit_of sent ≡ Err Duid
unfolding identified_packet_of
packet_unit_of-duid sent nid some is other =
    cc (synced sent some, is, cond-false (eqb nid.1 12) (with_nac nid.0 (sent_packet_of sent)) (Err Duid) (ne_eqb _ _ other))

identified : (sent : List Bool) (nid : ℕ × ℕ) → has_sync sent ≡ true → identifier_of sent ≡ Some nid → nid.1 ≡ 12 → packet_unit_of sent ≡ with_nac nid.0 (sent_packet_of sent)
unfolding identified_packet_of
identified sent nid some is duid =
    cc (synced sent some, is, cond-true (eqb nid.1 12) (with_nac nid.0 (sent_packet_of sent)) (Err Duid) (eq-eqb _ _ duid))

pub packet_unit_of-bad : (sent : List Bool) (nid : ℕ × ℕ) (field : Field) → has_sync sent ≡ true → identifier_of sent ≡ Some nid → nid.1 ≡ 12 → sent_packet_of sent ≡ Err field
    → packet_unit_of sent ≡ Err field
unfolding with_nac
packet_unit_of-bad sent nid field some is duid fails = cc (identified sent nid some is duid, fails)

pub packet_unit_of-good : (sent : List Bool) (nid : ℕ × ℕ) (packet : Packet) → has_sync sent ≡ true → identifier_of sent ≡ Some nid → nid.1 ≡ 12 → sent_packet_of sent ≡ Ok packet
    → packet_unit_of sent ≡ Ok (nid.0, packet)
unfolding with_nac
packet_unit_of-good sent nid packet some is duid reads = cc (identified sent nid some is duid, reads)
