-- The packet of a transmitted data unit (PDU), with its status symbols: the tests Sync, Nid, Duid, PacketHeader and Length, in this order, and then
-- the packet.
use Rattle.std.specs.Prelude.{ℕ, Bool, List, ◌==◌, nat_le, length, take, ◌++◌, Result, Ok, Err, Option, Some, None, if◌then◌else◌}
use Rattle.p25_bits.specs.Bits.{part}
use Rattle.p25_bch_nid.specs.Duids.{duid_pdu}
use Rattle.p25_status.specs.{declared.fields.Field.{Field}, declared.fields.Field.TheVariants.{Sync, Nid, Duid, Length}, Sync.{has_sync}, Woven.{bare_of}}
use Rattle.p25_unit_front.specs.Front.{identifier_of}
use Rattle.p25_trellis.specs.Nearest.{half_octets}
use Rattle.p25_packet_blocks.specs.{declared.head.PacketHead.{PacketHead}, declared.head.ReadHead.{ReadHead}, declared.packet.Packet.{Packet}}
use Rattle.p25_packet_blocks.specs.{Heads.{head_blocks}, Lengths.{packet_sent_length}, Reading.{head_from, read_head_of, packet_of_head}}

-- the bits of the header block of a transmitted data unit: those without status symbols from position 112 on
unfoldable pub sent_header_bits : List Bool → List Bool
sent_header_bits sent = part 114 28 sent ++ part 144 70 sent ++ part 216 70 sent ++ part 288 28 sent

-- the header of a transmitted data unit
unfoldable pub sent_head_of : List Bool → Result PacketHead Field
sent_head_of sent = head_from (half_octets (sent_header_bits sent))

-- the header of a transmitted data unit, and the number of bit errors of its block
unfoldable pub sent_read_of : List Bool → Result ReadHead Field
sent_read_of sent = read_head_of (sent_header_bits sent)

-- the packet of a transmitted data unit, from its header on
unfoldable pub sent_from : Result PacketHead Field → List Bool → Result Packet Field
sent_from (Err field) sent = Err field
sent_from (Ok head) sent =
    let count = packet_sent_length (head_blocks head) in
    if nat_le count (length sent) then packet_of_head head (bare_of (take count sent)) else Err Length

unfoldable pub sent_packet_of : List Bool → Result Packet Field
sent_packet_of sent = sent_from (sent_head_of sent) sent

-- a packet with its NAC
unfoldable pub with_nac : ℕ → Result Packet Field → Result (ℕ × Packet) Field
with_nac nac (Err field) = Err field
with_nac nac (Ok packet) = Ok (nac, packet)

-- from the network identifier (NID) on
unfoldable pub identified_packet_of : Option (ℕ × ℕ) → List Bool → Result (ℕ × Packet) Field
identified_packet_of None sent = Err Nid
identified_packet_of (Some nid) sent = if nid.1 == duid_pdu then with_nac nid.0 (sent_packet_of sent) else Err Duid

-- the packet of a transmitted data unit (PDU)
unfoldable pub packet_unit_of : List Bool → Result (ℕ × Packet) Field
packet_unit_of sent = if has_sync sent then identified_packet_of (identifier_of sent) sent else Err Sync
