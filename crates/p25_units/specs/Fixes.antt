-- The fixes of a frame: the examined positions in which the received bits differ from its image.
use Rattle.std.specs.Prelude.{ℕ, ◌+◌, ◌*◌, Bool, List, ◌∷◌}
use Rattle.p25_bits.specs.{Distance.{distance_of}, Numbers.{each_below}}
use Rattle.p25_status.specs.Woven.{bare_of}
use Rattle.p25_voice_units.specs.Fixes.{voice_looked, bits_at}
use Rattle.p25_packet_blocks.specs.{Heads.{head_blocks}, Whole.{packet_head}}
use Rattle.p25_units.specs.{UnitParts.{UnitParts}, Units.{unit_image_of}, declared.unit.Body.{Body}, declared.unit.Body.TheVariants.{Voice, Packet}}
use Rattle.p25_units.specs.declared.frame.Frame.{Frame}

-- the examined positions of a packet (PDU) with n blocks to follow: its header block, and these blocks
unfoldable pub packet_looked : ℕ → List (ℕ × ℕ)
packet_looked n = (112, 196) ∷ each_below n (λ j. (308 + 196 * j, 196))

-- the examined positions after sync and NID, as a position and a number of bits each
abbrev pub body_looked : Body → List (ℕ × ℕ)
body_looked (Voice voice) = voice_looked voice
body_looked (Packet packet) = packet_looked (head_blocks (packet_head packet))

-- the examined positions of a data unit without status symbols: its sync, the first 63 bits of its network identifier (NID), and its codewords and
-- blocks
abbrev pub looked_of : UnitParts → List (ℕ × ℕ)
looked_of unit = (0, 111) ∷ body_looked unit.body

-- the number of examined positions after sync and NID in which the bits of a data unit differ from the received bits, both without status symbols
unfoldable pub body_fixes_of : UnitParts → List Bool → ℕ
body_fixes_of unit bare = distance_of (bits_at (body_looked unit.body) bare) (bits_at (body_looked unit.body) (unit_image_of unit))

-- the fixes of a frame that was decoded from transmitted bits
unfoldable pub fixes_of : Frame → List Bool → ℕ
fixes_of frame sent = distance_of (bits_at (looked_of frame.unit) (bare_of sent)) (bits_at (looked_of frame.unit) (unit_image_of frame.unit))
