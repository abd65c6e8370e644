-- The request of a response to a sender.
use Rattle.std.specs.Prelude.{ℕ, ◌-◌, ◌&&◌, Bool, false, ◌==◌, nat_le, not, List, ◌++◌, length, take, map, replicate, Option, Some, None, if◌then◌else◌}
use Rattle.std.specs.List.{list_any}
use Rattle.p25_packet_blocks.specs.Heads.{response_format, head_format, head_llid, response_class, response_kind, response_status}
use Rattle.p25_packet_blocks.specs.FlagOctets.{flags_of_octets}
use Rattle.p25_delivery.specs.SentPackets.{station_llid, ack, crc_nack, retry_class, PlainParts, PacketHead}
pub use Rattle.p25_delivery.specs.declared.asked.Asked.{Asked, TheVariants.{Nothing, NextMessage, WholeMessage, Blocks}}

-- a response to this station: format 03 hex, with its LLID
unfoldable pub is_response : PacketHead → Bool
is_response head = head_format head == response_format && head_llid head == station_llid

-- ACK of a number: class 0, type 1
unfoldable pub is_ack : PacketHead → ℕ → Bool
is_ack head number = response_class head == ack.0 && response_kind head == ack.1 && response_status head == number

-- NACK of the packet CRC: class 1, type 1
unfoldable pub is_crc_nack : PacketHead → ℕ → Bool
is_crc_nack head number = response_class head == crc_nack.0 && response_kind head == crc_nack.1 && response_status head == number

-- selective retry: class 2, of any type
unfoldable pub is_retry : PacketHead → ℕ → Bool
is_retry head number = response_class head == retry_class && response_status head == number

-- the blocks of a message that were not received, with as many flags as the response has
unfoldable pub wanted_flags : ℕ → List Bool → List Bool
wanted_flags blocks flags = map not (take blocks flags) ++ replicate (length flags - blocks) false

-- the request of flags: nothing if there are fewer of them than blocks, or all blocks were received
unfoldable pub asked_by_flags : ℕ → Option (List Bool) → Asked
asked_by_flags blocks None = Nothing
asked_by_flags blocks (Some flags) =
    if nat_le blocks (length flags) && list_any not (take blocks flags) then Blocks (wanted_flags blocks flags) else Nothing

-- the request of a response while a message with a number and a number of blocks is outstanding
unfoldable pub asked_of : ℕ → ℕ → PlainParts → Asked
asked_of number blocks response =
    if is_ack response.head number
    then NextMessage
    else (if is_retry response.head number
    then asked_by_flags blocks (flags_of_octets response.octets)
    else (if is_crc_nack response.head number then WholeMessage else Nothing))
