-- The packets (PDU) that this project's stations transmit. Those of data go in one direction, and the responses in the other.
use Rattle.std.specs.Prelude.{ℕ, Bool, true, false, nat_le, List, [], ◌∷◌, length, map, slice_index_or, if◌then◌else◌}
use Rattle.p25_bits.specs.Numbers.{joined_below}
pub use Rattle.p25_packet_blocks.specs.Parts.{BlockParts, PlainParts}
pub use Rattle.p25_packet_blocks.specs.declared.head.PacketHead.{PacketHead}
use Rattle.p25_packet_blocks.specs.{Heads.{confirmed_head, response_head, opening_head}, FlagOctets.{flag_octets}}
use Rattle.p25_packet_blocks.specs.declared.block.Slot.{Slot, TheVariants.{Good}}
pub use Rattle.p25_packet_blocks.specs.declared.packet.Packet.{Packet, TheVariants.{Confirmed, Plain}}
use Rattle.p25_delivery.specs.MessageBlocks.{block_count, pad_count, message_block, message_blocks}

-- the logical link identifier (LLID) of both stations
abbrev pub station_llid : ℕ
station_llid = 1

-- the class and the type of the response ACK; of NACK for a wrong packet CRC; and of NACK for a number out of sequence
abbrev pub ack : ℕ × ℕ
ack = (0, 1)

abbrev pub crc_nack : ℕ × ℕ
crc_nack = (1, 1)

abbrev pub order_nack : ℕ × ℕ
order_nack = (1, 5)

-- the class of selective retry
abbrev pub retry_class : ℕ
retry_class = 2

-- a slot that holds a block
abbrev pub good_slot : BlockParts → Slot
good_slot block = Good block

-- the whole packet (PDU) of a message: the full message flag, and all blocks
unfoldable pub message_packet : ℕ → List ℕ → Packet
message_packet number message =
    let count = block_count (length message) in
    let pad = pad_count (length message) in
    Confirmed (record { head = confirmed_head station_llid true count pad number; slots = map good_slot (message_blocks message) })

-- the slots of the requested blocks, in the order of their serial numbers
unfoldable pub wanted_slots : List ℕ → List Bool → List Slot
wanted_slots message wanted =
    joined_below (block_count (length message)) (λ serial. if slice_index_or wanted serial false then good_slot (message_block message serial) ∷ [] else [])

-- the packet (PDU) of the requested blocks of a message, without the full message flag
unfoldable pub blocks_packet : ℕ → List ℕ → List Bool → Packet
blocks_packet number message wanted =
    let slots = wanted_slots message wanted in
    Confirmed (record { head = confirmed_head station_llid false (length slots) (pad_count (length message)) number; slots = slots })

-- the packet (PDU) that opens the session anew
unfoldable pub opening_packet : ℕ → Packet
opening_packet number = Confirmed (record { head = opening_head station_llid number; slots = [] })

-- a response of no blocks, by its class, type and status
unfoldable pub short_response : ℕ → ℕ → ℕ → Packet
short_response class kind status = Plain (record { head = response_head station_llid class kind status 0; octets = [] })

-- ACK, class 0 type 1: all messages up to this number were received
abbrev pub ack_packet : ℕ → Packet
ack_packet status = short_response ack.0 ack.1 status

-- NACK, class 1 type 1: the packet CRC does not agree
abbrev pub crc_nack_packet : ℕ → Packet
crc_nack_packet status = short_response crc_nack.0 crc_nack.1 status

-- NACK, class 1 type 5: out of sequence
abbrev pub order_nack_packet : ℕ → Packet
order_nack_packet status = short_response order_nack.0 order_nack.1 status

-- selective retry, class 2 type 0: the flags of the received blocks, 64 in one block and 128 in two
unfoldable pub retry_packet : ℕ → List Bool → Packet
retry_packet status flags =
    Plain (record { head = response_head station_llid retry_class 0 status (if nat_le (length flags) 64 then 1 else 2); octets = flag_octets flags })
