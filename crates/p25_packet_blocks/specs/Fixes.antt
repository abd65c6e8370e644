-- The number of bits in which the received blocks of a data unit differ from those of its packet (PDU).
use Rattle.std.specs.Prelude.{ℕ, zero, suc, ◌+◌, ◌*◌, Bool, List}
use Rattle.p25_bits.specs.{Bits.{part}, Distance.{distance_of}}
use Rattle.p25_trellis.specs.{Nearest.{nearest_distance}, Tables.{half_point, three_quarter_point}}
use Rattle.p25_packet_blocks.specs.{declared.packet.Packet.{Packet}, Heads.{head_blocks}, Whole.{packet_head}, Reading.{block_bits}, Image.{packet_image_of}}

-- the number of bits from position 112 on, as many as the header block and the blocks to follow have, in which the image of a packet differs from the
-- bits of a received data unit
unfoldable pub packet_fixes_of : ℕ → Packet → List Bool → ℕ
packet_fixes_of nac packet bare =
    let count = 196 * (1 + head_blocks (packet_head packet)) in distance_of (part 112 count bare) (part 112 count (packet_image_of nac packet))

-- the sum of the distances of the nearest paths of n blocks to follow
unfoldable pub blocks_distance : ℕ → (ℕ → ℕ → ℕ) → ℕ → List Bool → ℕ
blocks_distance states point zero bare = 0
blocks_distance states point (suc n) bare = blocks_distance states point n bare + nearest_distance states point (block_bits bare n)

-- the sum of the distances of the nearest paths of n blocks to follow at half rate
abbrev pub half_distance : ℕ → List Bool → ℕ
half_distance n bare = blocks_distance 4 half_point n bare

-- the sum of the distances of the nearest paths of n blocks to follow at three-quarter rate
abbrev pub three_quarter_distance : ℕ → List Bool → ℕ
three_quarter_distance n bare = blocks_distance 8 three_quarter_point n bare
