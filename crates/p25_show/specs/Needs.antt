-- The need at a sync, in three steps.
use Rattle.std.specs.Prelude.{ℕ, ◌*◌, ◌/◌, Bool, if◌then◌else◌, ◌==◌, nat_lt, List, length, Some, None, Ok, Err}
use Rattle.p25_status.specs.declared.fields.Field.TheVariants.{Nid, Duid}
use Rattle.p25_bch_nid.specs.Duids.{duid_pdu}
use Rattle.p25_unit_front.specs.Front.{identifier_of}
use Rattle.p25_voice_units.specs.Lengths.{voice_length_of}
use Rattle.p25_packet_blocks.specs.{Heads.{head_blocks}, Lengths.{packet_sent_length}, UnitReading.{sent_head_of}}
use Rattle.p25_units.specs.{Needs.{length_need}, declared.needs.Need.{Need}, declared.needs.Need.TheVariants.{More, NoLength}}

-- the need of a packet (PDU): 316 bits for its header, and then all that its header requires
abbrev pub packet_at : List Bool → Need
packet_at bits =
    if nat_lt (length bits) 316 then More 316
    else elim (sent_head_of bits) [ Ok head ↦ length_need (packet_sent_length (head_blocks head)) (length bits) | Err field ↦ NoLength field ]

-- the need of the data unit of a DUID: for a voice data unit the bits of its type, 72 for every 70
abbrev pub length_at : ℕ → List Bool → Need
length_at duid bits =
    if duid == duid_pdu then packet_at bits
    else elim (voice_length_of duid) [ Some bare ↦ length_need (bare / 70 * 72) (length bits) | None ↦ NoLength Duid ]

-- the need at a sync: 114 bits for the NID, and then the need of its data unit
abbrev pub need_at : List Bool → Need
need_at bits =
    if nat_lt (length bits) 114 then More 114
    else elim (identifier_of bits) [ Some nid ↦ length_at nid.1 bits | None ↦ NoLength Nid ]
