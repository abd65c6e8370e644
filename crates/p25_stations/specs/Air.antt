-- The channel between the two stations: a transmission is the data unit of a packet (PDU) with the listed bits inverted. And the decoding of a
-- delivery.
use Rattle.std.specs.Prelude.{nat_lt, length, count_by, ℕ, ◌&&◌, Bool, true, false, not, ◌==◌, List, [], ◌∷◌, replicate, Result, Ok, Err, if◌then◌else◌}
use Rattle.std.specs.Str.{bytes_eq}
use Rattle.std.proofs.Common.{lit<}
use Rattle.p25_bits.specs.Bits.{flipped}
use Rattle.p25_status.specs.{declared.symbols.Status.{Status}, declared.fields.Field.{Field}, Status.{status_at_number}}
use Rattle.p25_packet_blocks.specs.{declared.block.Slot.{Slot, TheVariants.{Good, Bad}}, declared.packet.Packet.{Packet, TheVariants.{Confirmed, Plain}}}
use Rattle.p25_packet_blocks.specs.{Heads.{head_blocks}, Whole.{packet_head}, Lengths.{packet_parts}, UnitReading.{packet_unit_of}}
use Rattle.p25_packet_blocks.specs.Within.{IsPacketWithin, sent_unit}
use Rattle.p25_stations.specs.declared.air.Carried.{Carried, TheVariants.{Lost, Foreign, Heard}}

-- the network access code (NAC) of both stations
abbrev pub station_nac : ℕ
station_nac = 0x293

-- the status symbol that both stations transmit, 00
abbrev pub station_status : Status
station_status = status_at_number 0 (lit< tt)

-- the data unit of a packet (PDU) as a station transmits it, with its status symbols
unfoldable pub transmission_of : Packet → List Bool
transmission_of packet = sent_unit station_nac packet (replicate (packet_parts (head_blocks (packet_head packet))) station_status)

-- bits with those at some positions inverted; a position past the end inverts nothing
unfoldable pub with_flips : List Bool → List ℕ → List Bool
with_flips bits [] = bits
with_flips bits (place ∷ places) = with_flips (flipped bits place) places

-- the received bits of a transmitted packet (PDU)
abbrev pub received_bits : Packet → List ℕ → List Bool
received_bits packet flips = with_flips (transmission_of packet) flips

-- a slot is true to the transmitted one: it is `Bad`, or holds the same block
unfoldable pub is_true_slot : Slot → Slot → Bool
is_true_slot sent Bad = true
is_true_slot (Good was) (Good block) = was.serial == block.serial && bytes_eq was.octets block.octets
is_true_slot sent heard = false

-- slot by slot
unfoldable pub are_true_slots : List Slot → List Slot → Bool
are_true_slots [] [] = true
are_true_slots (was ∷ sent) (slot ∷ slots) = is_true_slot was slot && are_true_slots sent slots
are_true_slots sent slots = false

-- a decoded packet (PDU) is true to the transmitted one: it has the same header, and each slot is `Bad` or holds the block transmitted there, or the
-- octets are the same
unfoldable pub is_true_to : Packet → Packet → Bool
is_true_to (Confirmed sent) (Confirmed heard) = bytes_eq sent.head.0 heard.head.0 && are_true_slots sent.slots heard.slots
is_true_to (Plain sent) (Plain heard) = bytes_eq sent.head.0 heard.head.0 && bytes_eq sent.octets heard.octets
is_true_to sent heard = false

-- a delivery by the decoding of its bits: it is lost if a field fails; a packet (PDU) with another network access code (NAC) is foreign; every other
-- is received, and is a false pass if it is not true to the transmitted one
unfoldable pub carried_from : Packet → Result (ℕ × Packet) Field → Carried
carried_from sent (Err field) = Lost field
carried_from sent (Ok (nac, packet)) = if nac == station_nac then Heard packet (not (is_true_to sent packet)) else Foreign

-- the reception of a transmitted packet (PDU) with the bits at some positions inverted
unfoldable pub carried_of : Packet → List ℕ → Carried
carried_of packet flips = carried_from packet (packet_unit_of (received_bits packet flips))

-- a transmitted packet (PDU) arrives within the correction radius if the bits at these positions are inverted
unfoldable pub ArrivesWithin : Packet → List ℕ → Type 0
ArrivesWithin packet flips = IsPacketWithin packet (transmission_of packet) (received_bits packet flips)

-- the number of positions of flips that are within a transmission
abbrev pub places_within : Packet → List ℕ → ℕ
places_within packet flips = count_by (λ place. nat_lt place (length (transmission_of packet))) flips
