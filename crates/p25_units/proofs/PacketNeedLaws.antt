-- The need of a packet is the same for its bits alone and among others: its NID and its header are decoded from them, and they are as many as it
-- requires.
use Rattle.std.proofs.{Common.{◌≡◌, ℕ, ◌≤◌, inl, inr, Bool, true, List, length, take, ap, sym, ◌∙◌, arith, Some, Result, Ok, Err}, lemmas.Bool.{cases_lt}, lemmas.List.{length-take-le}}
use Rattle.p25_status.specs.{Sync.{has_sync}, declared.fields.Field.{Field}}
use Rattle.p25_status.proofs.SyncLaws.{has_sync-take}
use Rattle.p25_unit_front.specs.Front.{identifier_of}
use Rattle.p25_unit_front.proofs.FrontLaws.{identifier_of-take}
use Rattle.p25_packet_blocks.specs.{declared.head.PacketHead.{PacketHead}, Heads.{head_blocks}, Lengths.{packet_sent_length}, UnitReading.{sent_head_of}}
use Rattle.p25_packet_blocks.proofs.UnitLaws.{sent_head_of-take}
use Rattle.p25_units.specs.{declared.needs.Need.TheVariants.{More, Length, NoLength}, Needs.{head_need, kind_need, length_need, need_of, packet_need}}
use Rattle.p25_units.proofs.NeedsLaws.{head_need-bad, head_need-good, identified_need-some, kind_need-packet, length_need-more, length_need-there, need_of-synced, packet_need-long, packet_need-short, synced_need-read}

-- a length that is there is the required one
pub length_need-is : (size have count : ℕ) → length_need size have ≡ Length count → size ≡ count
length_need-is size have count e = elim (cases_lt have size) [
  | inl few ↦ let two : More size ≡ Length count = sym (length_need-more size have few) ∙ e in absurd (cc)
  | inr enough ↦ let two : Length size ≡ Length count = sym (length_need-there size have enough) ∙ e in cc
]

-- a packet whose bits are there has its header block, and needs no more by them alone
head_need-alone : (head : Result PacketHead Field) (have count : ℕ) → head_need head have ≡ Length count → (316 ≤ count) × (head_need head count ≡ Length count)
head_need-alone (Err field) have count e = let two : NoLength field ≡ Length count = sym (head_need-bad field have) ∙ e in absurd (cc)
head_need-alone (Ok head) have count e =
    let size = packet_sent_length (head_blocks head) in
    let same : size ≡ count = length_need-is size have count (sym (head_need-good head have) ∙ e) in
    let fits : size ≤ count = omega arith in
    (omega (arith, same), head_need-good head count ∙ length_need-there size count fits ∙ ap Length same)

packet_need-alone : (bits : List Bool) (count : ℕ) → count ≤ length bits → packet_need bits ≡ Length count → (316 ≤ count) × (packet_need (take count bits) ≡ Length count)
packet_need-alone bits count there e = elim (cases_lt (length bits) 316) [
  | inl few ↦ let two : More 316 ≡ Length count = sym (packet_need-short bits few) ∙ e in absurd (cc)
  | inr enough ↦
      let alone = head_need-alone (sent_head_of bits) (length bits) count (sym (packet_need-long bits enough) ∙ e) in
      let long : length (take count bits) ≡ count = length-take-le count bits there in
      let many : 316 ≤ length (take count bits) = omega (arith, alone.0, long) in
      (alone.0, packet_need-long (take count bits) many ∙ ap (λ h. head_need h (length (take count bits))) (sent_head_of-take count bits alone.0) ∙ ap (head_need (sent_head_of bits)) long ∙ alone.1)
]

-- the need of the bits of a packet
pub need_of-packet_alone : (bits : List Bool) (count : ℕ) (nid : ℕ × ℕ) → has_sync bits ≡ true → identifier_of bits ≡ Some nid → nid.1 ≡ 0xC → kind_need nid.1 bits ≡ Length count → count ≤ length bits
    → need_of (take count bits) ≡ Length count
need_of-packet_alone bits count nid synced read packet kind there =
    let sent = take count bits in
    let alone = packet_need-alone bits count there (sym (kind_need-packet bits) ∙ ap (λ d. kind_need d bits) (sym packet) ∙ kind) in
    let some : 114 ≤ count = omega (arith, alone.0) in
    let front : 48 ≤ count = omega (arith, alone.0) in
    let long : length sent ≡ count = length-take-le count bits there in
    let enough : 114 ≤ length sent = omega (arith, some, long) in
    need_of-synced sent (has_sync-take bits count front there ∙ synced)
    ∙ synced_need-read sent (Some nid) enough (identifier_of-take count bits some ∙ read)
    ∙ identified_need-some nid sent
    ∙ ap (λ d. kind_need d sent) packet
    ∙ kind_need-packet sent
    ∙ alone.1
