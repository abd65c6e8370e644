-- The outcome of decoding a packet (PDU): the fields that fail, or the number of bit errors.
use Rattle.std.specs.Prelude.{ℕ, ◌+◌, Bool, List, [], ◌∷◌, length, slice_index_or, Result, Ok, Err, if◌then◌else◌, ◌==◌}
use Rattle.p25_bits.specs.Numbers.{joined_below}
use Rattle.p25_status.specs.{Outcomes.{outcome_of}, declared.fields.Field.{Field}, declared.fields.Field.TheVariants.{Block}}
use Rattle.p25_status.specs.declared.read_outcome.ReadOutcome.{ReadOutcome}
use Rattle.p25_packet_blocks.specs.{declared.head.PacketHead.{PacketHead}, declared.head.ReadHead.{ReadHead}, declared.block.Slot.{Slot}}
use Rattle.p25_packet_blocks.specs.{declared.block.Slot.TheVariants.{Good, Bad}, declared.packet.Packet.{Packet}}
use Rattle.p25_packet_blocks.specs.{declared.packet.Packet.TheVariants.{Confirmed, Plain}, Fixes.{half_distance, three_quarter_distance}}
use Rattle.p25_packet_blocks.specs.{Heads.{confirmed_format, head_format, head_blocks}, Reading.{packet_of_head}}

-- the field that fails if the slot at a position is `Bad`
abbrev pub failing_slot : ℕ → Slot → List Field
failing_slot j (Good block) = []
failing_slot j Bad = Block j ∷ []

-- the fields that fail of the first n slots, in order
unfoldable pub failing_slots_of : ℕ → List Slot → List Field
failing_slots_of n slots = joined_below n (λ j. failing_slot j (slice_index_or slots j Bad))

-- the fields that fail of a packet (PDU): a block for each slot that is `Bad`
unfoldable pub failing_blocks_of : Packet → List Field
failing_blocks_of (Confirmed packet) = failing_slots_of (length packet.slots) packet.slots
failing_blocks_of (Plain packet) = []

-- the number of bits in which the blocks to follow differ from the nearest blocks, at the rate of the format
unfoldable pub body_distance : PacketHead → List Bool → ℕ
body_distance head bare =
    if head_format head == confirmed_format then three_quarter_distance (head_blocks head) bare else half_distance (head_blocks head) bare

-- a decoded packet in its buffer, or the field for which there is none
abbrev pub packet_or : Result ℕ Field → Packet → Result Packet Field
packet_or (Ok wrong) packet = Ok packet
packet_or (Err field) packet = Err field

-- the fields that fail in a decoding: the format or the packet CRC alone, or each block whose slot is `Bad`
unfoldable pub packet_failing : Result Packet Field → List Field
packet_failing (Err field) = field ∷ []
packet_failing (Ok packet) = failing_blocks_of packet

-- the outcome of decoding a data unit (PDU) after its header was decoded
unfoldable pub packet_outcome_of : ReadHead → List Bool → ReadOutcome
packet_outcome_of read bare = outcome_of (packet_failing (packet_of_head read.head bare)) (read.wrong + body_distance read.head bare)
