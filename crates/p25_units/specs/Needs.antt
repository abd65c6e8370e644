-- The needs of the bits from a position on. There is one rule for each type of data unit, joined after the decoding of the network identifier (NID).
use Rattle.std.specs.Prelude.{ℕ, Bool, true, false, if◌then◌else◌, ◌==◌, nat_lt, List, Option, Some, None, Result, Ok, Err, length}
use Rattle.p25_status.specs.{Sync.{has_sync}, declared.fields.Field.{Field}, declared.fields.Field.TheVariants.{Nid, Duid}}
use Rattle.p25_bch_nid.specs.Duids.{duid_pdu}
use Rattle.p25_unit_front.specs.Front.{identifier_of}
use Rattle.p25_voice_units.specs.Lengths.{voice_length_of}
use Rattle.p25_packet_blocks.specs.{declared.head.PacketHead.{PacketHead}, Heads.{head_blocks}, Lengths.{packet_sent_length}, UnitReading.{sent_head_of}}
use Rattle.p25_units.specs.{Units.{sent_length}, declared.needs.Need.{Need}, declared.needs.Need.TheVariants.{NoSync, More, Length, NoLength}}

-- the need of a data unit of a known length if a number of bits is there
unfoldable pub length_need : ℕ → ℕ → Need
length_need count have = if nat_lt have count then More count else Length count

-- the need of a voice data unit (HDU, LDU1, LDU2, TDU or TDULC), by the number of bits of its type without status symbols; none if there is no such
-- type
unfoldable pub voice_need : Option ℕ → ℕ → Need
voice_need None have = NoLength Duid
voice_need (Some bare) have = length_need (sent_length bare) have

-- the need of a packet (PDU) whose header was decoded, or fails
unfoldable pub head_need : Result PacketHead Field → ℕ → Need
head_need (Err field) have = NoLength field
head_need (Ok head) have = length_need (packet_sent_length (head_blocks head)) have

-- the need of a packet (PDU): the 316 bits with sync, NID and header block, and then all that its header requires
unfoldable pub packet_need : List Bool → Need
packet_need bits = if nat_lt (length bits) 316 then More 316 else head_need (sent_head_of bits) (length bits)

-- the need of the data unit of a DUID (HDU, LDU1, LDU2, TDU, TDULC or PDU)
unfoldable pub kind_need : ℕ → List Bool → Need
kind_need duid bits = if duid == duid_pdu then packet_need bits else voice_need (voice_length_of duid) (length bits)

-- the need after a decoded network identifier (NID), or after none
unfoldable pub identified_need : Option (ℕ × ℕ) → List Bool → Need
identified_need None bits = NoLength Nid
identified_need (Some nid) bits = kind_need nid.1 bits

-- the need at a sync
unfoldable pub synced_need : List Bool → Need
synced_need bits = if nat_lt (length bits) 114 then More 114 else identified_need (identifier_of bits) bits

-- the need of the bits from a position on
unfoldable pub need_of : List Bool → Need
need_of bits = if nat_lt (length bits) 48 then More 48 else if has_sync bits then synced_need bits else NoSync

-- no more bits are needed for a decision
abbrev pub is_known : Need → Bool
is_known NoSync = true
is_known (More count) = false
is_known (Length count) = true
is_known (NoLength field) = true
