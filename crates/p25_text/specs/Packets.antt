-- The values of packets (PDU) after the network access code (NAC), and the packets that values decode to.
use Rattle.std.specs.Prelude.{ℕ, ◌-◌, ◌*◌, ◌==◌, ◌&&◌, nat_lt, if◌then◌else◌, List, [], ◌∷◌, ◌++◌, length, take, drop, slice_index, Option, Some, None}
use Rattle.std.specs.Option.{option_and_then, option_map}
use Rattle.hex.specs.Hex.{encode_lower}
use Rattle.p25_packet_blocks.specs.{declared.block.Block.{Block}, declared.block.Slot.{Slot}, declared.block.Slot.TheVariants.{Good, Bad}}
use Rattle.p25_packet_blocks.specs.{declared.head.PacketHead.{PacketHead}, declared.packet.Packet.{Packet}}
use Rattle.p25_packet_blocks.specs.{declared.packet.Packet.TheVariants.{Confirmed, Plain}, Heads.{confirmed_format, response_format, head_blocks, head_format}}
use Rattle.p25_line.specs.{CommaLists.{counted, list_in, list_text}, Octets.{octets_text}}
use Rattle.p25_text.specs.{Values.{octets_in, octets_or_none}, declared.names.UnitKind.{UnitKind}}
use Rattle.p25_text.specs.declared.names.UnitKind.TheVariants.{Confirmed as ConfirmedKind, Plain as PlainKind, Response as ResponseKind}

-- ---- texts

-- the text of a block: its serial number as two digits, a colon, and its octets
abbrev pub block_text : Block → List ℕ
block_text block = encode_lower (block.serial ∷ []) ++ 58 ∷ encode_lower block.octets

-- the text of a slot; a `Bad` slot has none
abbrev pub slot_text : Slot → List ℕ
slot_text (Good block) = block_text block
slot_text Bad = []

-- the values of a packet (PDU), in the order of the keys after the network access code (NAC)
abbrev pub packet_values : Packet → List (List ℕ)
packet_values (Confirmed packet) = encode_lower packet.head.0 ∷ list_text slot_text packet.slots ∷ []
packet_values (Plain packet) = encode_lower packet.head.0 ∷ octets_text packet.octets ∷ []

-- the type of the line of a packet (PDU); for an unconfirmed packet the format determines it
abbrev pub packet_kind : Packet → UnitKind
packet_kind (Confirmed packet) = ConfirmedKind
packet_kind (Plain packet) = if head_format packet.head == response_format then ResponseKind else PlainKind

-- ---- readings

-- the block of a serial number, which is at most 127, and sixteen octets
abbrev pub block_from : Option (List ℕ) → Option (List ℕ) → Option Block
block_from (Some (serial ∷ [])) (Some octets) = if nat_lt serial 128 then Some (record { serial = serial; octets = octets }) else None
block_from serial octets = None

-- the block that a text of 35 octets decodes to: two digits, a colon and 32 digits
abbrev pub block_in : List ℕ → Option Block
block_in text = if (length text == 35) && (slice_index text 2 == 58) then block_from (octets_in 1 (take 2 text)) (octets_in 16 (drop 3 text)) else None

-- the slot of the block that a text decodes to
abbrev pub slot_in : List ℕ → Option Slot
slot_in text = option_map Good (block_in text)

-- the header of a packet (PDU) that a word of 20 digits decodes to
abbrev pub head_in : List ℕ → Option PacketHead
head_in word = option_map (λ octets. record { 0 = octets }) (octets_in 10 word)

-- a confirmed packet (PDU) of its header and its slots
abbrev pub confirmed_of : PacketHead → List Slot → Packet
confirmed_of head slots = Confirmed (record { head = head; slots = slots })

-- the confirmed packet (PDU) of a header of format 16 hex, if a word decodes to as many slots as there are blocks to follow
abbrev pub confirmed_from : List ℕ → PacketHead → Option Packet
confirmed_from word head =
    if head_format head == confirmed_format then option_map (confirmed_of head) (counted (head_blocks head) (list_in slot_in word)) else None

-- the confirmed packet (PDU) of two values
abbrev pub confirmed_in : List ℕ → List ℕ → Option Packet
confirmed_in head blocks = option_and_then (confirmed_from blocks) (head_in head)

-- another packet (PDU) of its header and its octets before the packet CRC
abbrev pub plain_of : PacketHead → List ℕ → Packet
plain_of head octets = Plain (record { head = head; octets = octets })

-- the packet (PDU) of a header of a format, if a word decodes to twelve octets for each block to follow less four, or to none if there is no block to
-- follow
abbrev pub plain_from : ℕ → List ℕ → PacketHead → Option Packet
plain_from format word head = if head_format head == format then option_map (plain_of head) (octets_or_none (12 * head_blocks head - 4) word) else None

-- the packet (PDU) of a format of two values
abbrev pub plain_in : ℕ → List ℕ → List ℕ → Option Packet
plain_in format head octets = option_and_then (plain_from format octets) (head_in head)
