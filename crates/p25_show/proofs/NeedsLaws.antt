-- The need at a sync is the need of the scan of a recording there.
use Rattle.std.proofs.Common.{◌≡◌, ℕ, ◌*◌, ◌/◌, Bool, true, cond, ◌==◌, nat_lt, List, length, Option, Some, None, Result, Ok, Err, refl, ap, ◌∙◌}
use Rattle.p25_status.specs.{Sync.{has_sync}, declared.fields.Field.{Field}, declared.fields.Field.TheVariants.{Nid, Duid}}
use Rattle.p25_bch_nid.specs.Duids.{duid_pdu}
use Rattle.p25_unit_front.specs.Front.{identifier_of}
use Rattle.p25_voice_units.specs.Lengths.{voice_length_of}
use Rattle.p25_packet_blocks.specs.{declared.head.PacketHead.{PacketHead}, Heads.{head_blocks}, Lengths.{packet_sent_length}, UnitReading.{sent_head_of}}
use Rattle.p25_units.specs.{Needs.{head_need, identified_need, kind_need, length_need, need_of, packet_need, synced_need, voice_need}, declared.needs.Need.{Need}}
use Rattle.p25_units.specs.declared.needs.Need.TheVariants.{More, NoLength}
use Rattle.p25_units.proofs.NeedsLaws.{need_of-synced}
use Rattle.p25_show.specs.Needs.{length_at, need_at, packet_at}

packet-at : (bits : List Bool) → packet_need bits ≡ packet_at bits
unfolding packet_need head_need
packet-at bits = by_head (sent_head_of bits)
  where
    by_head : (head : Result PacketHead Field)
        → cond (nat_lt (length bits) 316) (More 316) (head_need head (length bits))
        ≡ cond (nat_lt (length bits) 316) (More 316)
        (elim head [ Ok head ↦ length_need (packet_sent_length (head_blocks head)) (length bits) | Err field ↦ NoLength field ])
    by_head (Ok head) = refl
    by_head (Err field) = refl

length-at : (duid : ℕ) (bits : List Bool) → kind_need duid bits ≡ length_at duid bits
unfolding kind_need voice_need
length-at duid bits =
    ap (λ (packet : Need). cond (duid == duid_pdu) packet (voice_need (voice_length_of duid) (length bits))) (packet-at bits)
    ∙ by_length (voice_length_of duid)
  where
    by_length : (count : Option ℕ)
        → cond (duid == duid_pdu) (packet_at bits) (voice_need count (length bits))
        ≡ cond (duid == duid_pdu) (packet_at bits) (elim count [ Some bare ↦ length_need (bare / 70 * 72) (length bits) | None ↦ NoLength Duid ])
    by_length (Some count) = refl
    by_length None = refl

synced-at : (bits : List Bool) → synced_need bits ≡ need_at bits
unfolding synced_need identified_need
synced-at bits = by_nid (identifier_of bits)
  where
    by_nid : (nid : Option (ℕ × ℕ))
        → cond (nat_lt (length bits) 114) (More 114) (identified_need nid bits)
        ≡ cond (nat_lt (length bits) 114) (More 114) (elim nid [ Some nid ↦ length_at nid.1 bits | None ↦ NoLength Nid ])
    by_nid (Some nid) = ap (cond (nat_lt (length bits) 114) (More 114)) (length-at nid.1 bits)
    by_nid None = refl

pub need-at : (bits : List Bool) → has_sync bits ≡ true → need_of bits ≡ need_at bits
need-at bits synced = need_of-synced bits synced ∙ synced-at bits
