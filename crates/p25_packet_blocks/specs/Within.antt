-- Received bits within the correction radius of the image of a packet (PDU).
use Rattle.std.specs.Prelude.{◌≡◌, ℕ, ◌*◌, ◌<◌, ◌≤◌, Bool, List, length, take}
use Rattle.p25_bits.specs.Distance.{distance_of}
use Rattle.p25_status.specs.{Sync.{sync_slack}, declared.symbols.Status.{Status}, Woven.{woven, bare_of}}
use Rattle.p25_unit_front.specs.Front.{identifier_bits}
use Rattle.p25_packet_blocks.specs.{declared.packet.Packet.{Packet}, declared.packet.Packet.TheVariants.{Confirmed, Plain}, Heads.{head_blocks}}
use Rattle.p25_packet_blocks.specs.{Whole.{packet_head}, Lengths.{packet_bare_length}, Image.{packet_image_of}, Sendable.{IsSendable}}
use Rattle.p25_packet_blocks.specs.Reading.{header_bits, block_bits}

-- the most bit errors of a block: one at three-quarter rate, two at half rate
abbrev pub block_radius : Packet → ℕ
block_radius (Confirmed packet) = 1
block_radius (Plain packet) = 2

-- received bits without status symbols are within the correction radius of a packet's image: at most two bit errors in the header block, and at most
-- `block_radius` in each other block
pub record AreBlocksWithin (packet : Packet) (image received : List Bool) : Type 0 where
  pub long : length received ≡ length image
  pub header : distance_of (header_bits image) (header_bits received) ≤ 2
  pub blocks : (j : ℕ) → j < head_blocks (packet_head packet) → distance_of (block_bits image j) (block_bits received j) ≤ block_radius packet

-- received bits are within the correction radius of a transmitted data unit of a packet (PDU): few bit errors in the sync, in the first 63 bits of
-- the network identifier (NID), and in its blocks; status symbols, the last bit of the NID and nulls are free
pub record IsPacketWithin (packet : Packet) (sent received : List Bool) : Type 0 where
  pub long : length received ≡ length sent
  pub sync : distance_of (take 48 received) (take 48 sent) ≤ sync_slack
  pub identifier : distance_of (take 63 (identifier_bits received)) (take 63 (identifier_bits sent)) ≤ 11
  pub blocks : AreBlocksWithin packet (bare_of sent) (bare_of received)

-- a packet that is transmitted under a network access code of 12 bits, with a status symbol for each 70 bits of its data unit
pub record IsSending (nac : ℕ) (packet : Packet) (statuses : List Status) : Type 0 where
  pub nac_fits : nac < 4096
  pub sendable : IsSendable packet
  pub counted : 70 * length statuses ≡ packet_bare_length (head_blocks (packet_head packet))

-- the transmitted data unit of a packet (PDU)
abbrev pub sent_unit : ℕ → Packet → List Status → List Bool
sent_unit nac packet statuses = woven (packet_image_of nac packet) statuses
