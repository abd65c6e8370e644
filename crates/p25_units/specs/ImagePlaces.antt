-- The transmitted bits of a frame by positions, as in the standard.
use Rattle.std.specs.Prelude.{ℕ, Bool, List}
use Rattle.p25_status.specs.Woven.{StandsByPlaces}
use Rattle.p25_voice_units.specs.Places.{IsVoiceImage}
use Rattle.p25_packet_blocks.specs.Places.{IsPacketImage}
use Rattle.p25_units.specs.{declared.unit.Body.{Body}, declared.unit.Body.TheVariants.{Voice, Packet}, declared.frame.Frame.{Frame}}

-- bits are those of a body: sync and NID, the codewords of each code at their positions, and every other bit 0
unfoldable pub IsBodyImage : ℕ → Body → List Bool → Type 0
IsBodyImage nac (Voice voice) bare = IsVoiceImage nac voice bare
IsBodyImage nac (Packet packet) bare = IsPacketImage nac packet bare

-- transmitted bits are the image of a frame: such bits of its data unit, with its status symbols after every 70 of them
pub record IsImage (frame : Frame) (sent : List Bool) : Type 0 where
  pub bare : List Bool
  pub laid_out : IsBodyImage frame.unit.nac frame.unit.body bare
  pub woven : StandsByPlaces bare frame.statuses sent
