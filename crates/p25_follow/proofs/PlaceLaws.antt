-- Whether a data unit begins at a position depends on 316 bits alone: on the sync, the NID and the header of a packet. By the cases of the need
-- there.
use Rattle.std.proofs.Common.{◌≡◌, ℕ, ◌≤◌, Bool, true, false, cond, inl, inr, List, length, take, Option, Some, None, Result, Ok, Err, refl, ap, arith}
use Rattle.std.proofs.lemmas.Bool.{cases_Bool, eqb-false, eqb-true}
use Rattle.std.specs.Prelude.{nat_eq}
use Rattle.p25_status.specs.{Sync.{has_sync}, declared.fields.Field.{Field}}
use Rattle.p25_status.proofs.SyncLaws.{has_sync-take}
use Rattle.p25_unit_front.specs.Front.{identifier_of}
use Rattle.p25_unit_front.proofs.FrontLaws.{identifier_of-take}
use Rattle.p25_voice_units.specs.Lengths.{voice_length_of}
use Rattle.p25_packet_blocks.specs.{declared.head.PacketHead.{PacketHead}, Heads.{head_blocks}, Lengths.{packet_sent_length}, UnitReading.{sent_head_of}}
use Rattle.p25_packet_blocks.proofs.UnitLaws.{sent_head_of-take}
use Rattle.p25_units.specs.{Needs.{head_need, identified_need, kind_need, need_of, voice_need}, Units.{sent_length}, declared.needs.Need.{Need}}
use Rattle.p25_units.specs.declared.needs.Need.TheVariants.{NoSync, More, Length, NoLength}
use Rattle.p25_units.proofs.NeedsLaws.{head_need-bad, head_need-good, identified_need-none, identified_need-some, kind_need-packet, kind_need-unpacked, length_need-cases, need_of-synced, packet_need-long, synced_need-long, voice_need-none, voice_need-some}
use Rattle.p25_stream.specs.Items.{first_item, synced_item}
use Rattle.p25_stream.proofs.ItemsLaws.{first_item-synced}
use Rattle.p25_follow.specs.Followed.{is_rest}
use Rattle.p25_follow.proofs.SameUnitsLaws.{no_sync-rest, unit-there}

abbrev need_rest : Need → Bool
need_rest NoSync = true
need_rest (More count) = false
need_rest (Length count) = false
need_rest (NoLength field) = true

abbrev head_rest : Result PacketHead Field → Bool
head_rest (Ok head) = false
head_rest (Err field) = true

abbrev voice_rest : Option ℕ → Bool
voice_rest None = true
voice_rest (Some bare) = false

abbrev kind_rest : Option (ℕ × ℕ) → Result PacketHead Field → Bool
kind_rest None head = true
kind_rest (Some nid) head = cond (nat_eq nid.1 0xC) (head_rest head) (voice_rest (voice_length_of nid.1))

synced-rest : (at : ℕ) (bits : List Bool) (need : Need) → need_of bits ≡ need → is_rest (synced_item at bits need) ≡ need_rest need
synced-rest at bits NoSync is = refl
synced-rest at bits (More count) is = refl
synced-rest at bits (Length count) is = unit-there at count bits is
synced-rest at bits (NoLength field) is = refl

head-rest : (reading : Result PacketHead Field) (have : ℕ) → need_rest (head_need reading have) ≡ head_rest reading
head-rest (Err field) have = rw head_need-bad
head-rest (Ok head) have =
    rw (head_need-good head have) (length_need-cases (λ need. need_rest need ≡ false) (packet_sent_length (head_blocks head)) have (λ short. refl) (λ long. refl))

voice-rest : (found : Option ℕ) (have : ℕ) → need_rest (voice_need found have) ≡ voice_rest found
voice-rest None have = rw voice_need-none
voice-rest (Some bare) have = rw (voice_need-some bare have) (length_need-cases (λ need. need_rest need ≡ false) (sent_length bare) have (λ short. refl) (λ long. refl))

kind-rest : (kind : ℕ) (bits : List Bool) → 316 ≤ length bits → need_rest (kind_need kind bits) ≡ cond (nat_eq kind 0xC) (head_rest (sent_head_of bits)) (voice_rest (voice_length_of kind))
kind-rest kind bits long =
    elim (cases_Bool (nat_eq kind 0xC)) [
      | inl packet ↦
          rw (eqb-true kind 0xC packet, kind_need-packet, packet_need-long bits long) (head-rest (sent_head_of bits) (length bits))
      | inr other ↦ rw (other, kind_need-unpacked kind bits (eqb-false kind 0xC other)) (voice-rest (voice_length_of kind) (length bits))
    ]

identified-rest : (read : Option (ℕ × ℕ)) (bits : List Bool) → 316 ≤ length bits → need_rest (identified_need read bits) ≡ kind_rest read (sent_head_of bits)
identified-rest None bits long = rw identified_need-none
identified-rest (Some nid) bits long = rw (identified_need-some nid bits) (kind-rest nid.1 bits long)

-- whether an item belongs to a stretch, by the sync, the NID and the header at its position
place-rest : (at : ℕ) (bits : List Bool) → 316 ≤ length bits → is_rest (first_item at bits) ≡ cond (has_sync bits) (kind_rest (identifier_of bits) (sent_head_of bits)) true
place-rest at bits long =
    elim (cases_Bool (has_sync bits)) [
      | inl yes' ↦
          rw (yes', first_item-synced at bits (need_of bits) yes' refl, synced-rest at bits (need_of bits) refl, need_of-synced bits yes', synced_need-long bits (omega arith))
          (identified-rest (identifier_of bits) bits long)
      | inr no' ↦ rw no' (no_sync-rest at bits no')
    ]

readings-same : (bits others : List Bool) → 316 ≤ length bits → 316 ≤ length others → take 316 bits ≡ take 316 others
    → cond (has_sync bits) (kind_rest (identifier_of bits) (sent_head_of bits)) true ≡ cond (has_sync others) (kind_rest (identifier_of others) (sent_head_of others)) true
readings-same bits others long also same =
    let sync = rw (has_sync-take bits 316 (omega arith) long, has_sync-take others 316 (omega arith) also) at (ap has_sync same) in
    let read = rw (identifier_of-take 316 bits (omega arith), identifier_of-take 316 others (omega arith)) at (ap identifier_of same) in
    let head = rw (sent_head_of-take 316 bits (omega arith), sent_head_of-take 316 others (omega arith)) at (ap sent_head_of same) in
    rw (sync, read, head)

pub place-few : (at other : ℕ) (bits others : List Bool) → 316 ≤ length bits → 316 ≤ length others → take 316 bits ≡ take 316 others → is_rest (first_item at bits) ≡ is_rest (first_item other others)
place-few at other bits others long also same = rw (place-rest at bits long, place-rest other others also) (readings-same bits others long also same)
