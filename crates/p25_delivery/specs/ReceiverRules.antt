-- The effect of a packet (PDU) on a receiver: its state afterwards, and its result.
use Rattle.std.specs.Prelude.{ℕ, ◌+◌, ◌%◌, ◌&&◌, ◌==◌, List, length, replicate, Option, Some, None, if◌then◌else◌}
use Rattle.p25_packet_blocks.specs.{Heads.{head_is_full, head_blocks, head_pad, head_llid, head_syn, head_number}, ConfirmedParts.{ConfirmedParts}}
use Rattle.p25_delivery.specs.{MessageBlocks.{unpadded}, Places.{put_slots, all_octets, held_flags}}
use Rattle.p25_delivery.specs.SentPackets.{station_llid, ack_packet, crc_nack_packet, order_nack_packet, retry_packet, PacketHead, Packet, Confirmed, Plain}
use Rattle.p25_delivery.specs.Halves.{Keeping, Receiving}
pub use Rattle.p25_messages.specs.declared.answers.Heard.{Heard, TheVariants.{Delivered, Opened, Again, Kept, RefusedCrc, RefusedOrder, Ignored}}

-- a number of empty entries, and a pad
abbrev pub empty_places : ℕ → ℕ → Keeping
empty_places blocks pad = record { places = replicate blocks None; pad = pad }

-- the blocks kept after a packet with the full message flag: the former ones, if there are as many entries and the same pad, and otherwise empty
-- entries
unfoldable pub keeping_full : Option Keeping → ℕ → ℕ → Keeping
keeping_full None blocks pad = empty_places blocks pad
keeping_full (Some kept) blocks pad =
    if length kept.places == blocks && kept.pad == pad then kept else empty_places blocks pad

-- the blocks kept while a packet is received: none if it is ignored, as is one of no blocks, and one without the full message flag if nothing was
-- kept
unfoldable pub keeping_for : Option Keeping → PacketHead → Option Keeping
keeping_for kept head =
    if head_is_full head then (if head_blocks head == 0 then None else Some (keeping_full kept (head_blocks head) (head_pad head))) else kept

-- all blocks are held, and they are a message or not
unfoldable pub finished : Receiving → ℕ → Option (List ℕ) → Receiving × Heard
finished r number None = (record { last = r.last; kept = None }, RefusedCrc number (crc_nack_packet number))
finished r number (Some message) = (record { last = number; kept = None }, Delivered number message (ack_packet number))

-- the blocks of a packet are stored in their entries, which then are all held or not
unfoldable pub completed : Receiving → ℕ → Keeping → Option (List ℕ) → Receiving × Heard
completed r number kept None =
    (record { last = r.last; kept = Some kept }, Kept number (held_flags kept.places) (retry_packet number (held_flags kept.places)))
completed r number kept (Some octets) = finished r number (unpadded octets kept.pad)

-- the next message is received, whole or in parts
unfoldable pub filled : Receiving → ConfirmedParts → Option Keeping → Receiving × Heard
filled r packet None = (r, Ignored)
filled r packet (Some kept) =
    let places = put_slots kept.places packet.slots in
    completed r (head_number packet.head) (record { places = places; pad = kept.pad }) (all_octets places)

-- the session is opened anew, by a packet of no blocks
unfoldable pub opening_heard : Receiving → PacketHead → Receiving × Heard
opening_heard r head =
    let number = head_number head in
    if head_blocks head == 0 then (record { last = number; kept = None }, Opened number (ack_packet number)) else (r, Ignored)

-- a packet of data is received: that of the last message again, one out of order, or that of the next message
unfoldable pub data_heard : Receiving → ConfirmedParts → Receiving × Heard
data_heard r packet =
    if head_number packet.head == r.last
    then (r, Again r.last (ack_packet r.last))
    else (if head_number packet.head == (r.last + 1) % 8
    then filled r packet (keeping_for r.kept packet.head)
    else (r, RefusedOrder r.last (order_nack_packet r.last)))

-- a packet is received: only a confirmed one with the LLID
unfoldable pub receiver_heard : Receiving → Packet → Receiving × Heard
receiver_heard r (Plain packet) = (r, Ignored)
receiver_heard r (Confirmed packet) =
    if head_llid packet.head == station_llid
    then (if head_syn packet.head then opening_heard r packet.head else data_heard r packet)
    else (r, Ignored)
