-- The relation of the item of a whole data unit to its transmitted bits.
use Rattle.std.specs.Prelude.{◌≡◌, ℕ, Bool, true, List, take}
use Rattle.p25_status.specs.{Sync.{has_sync}, Woven.{bare_of, statuses_of}}
use Rattle.p25_voice_units.specs.WithinRadius.{IsVoiceWithin}
use Rattle.p25_packet_blocks.specs.WholeReading.{IsPacketRead}
use Rattle.p25_units.specs.{Fixes.{fixes_of}, Items.{unit_item_of}, Needs.{need_of}, Units.{IsSendableUnit, IsSoundFrame, unit_image_of}}
use Rattle.p25_units.specs.{WithinRadius.{IsFrontWithin}, declared.unit.Body.{Body}, declared.unit.Body.TheVariants.{Voice, Packet}}
use Rattle.p25_units.specs.{declared.frame.Frame.{Frame}, declared.needs.Need.TheVariants.{Length}, declared.item.Item.TheVariants.{Whole}}

-- the bits after sync and NID, without status symbols, decode to the body. Those of a voice data unit lie within the correction radius of its own;
-- for a packet, the first nearest paths to its header block and its other blocks carry it, with all its checks
unfoldable pub IsBodyRead : Body → List Bool → List Bool → Type 0
IsBodyRead (Voice voice) image bare = IsVoiceWithin voice image bare
IsBodyRead (Packet packet) image bare = IsPacketRead packet bare

-- a whole data unit as transmitted: few bits of its sync and its NID are wrong, its codewords and blocks are the decodings of the received ones, and
-- it is sendable. Its status symbols are the transmitted ones, it begins at its position, and its fixes are counted
pub record IsWholeOf (at : ℕ) (sent : List Bool) (place : ℕ) (frame : Frame) (fixes : ℕ) : Type 0 where
  pub front : IsFrontWithin frame sent
  pub body : IsBodyRead frame.unit.body (unit_image_of frame.unit) (bare_of sent)
  pub sound : IsSoundFrame frame
  pub sendable : IsSendableUnit frame.unit
  pub statuses : frame.statuses ≡ statuses_of sent
  pub place_is : place ≡ at
  pub fixes_is : fixes ≡ fixes_of frame sent

-- at a sync, the bits of a data unit are a whole one only if they decode to its frame
abbrev pub WholeUnitIsRead : Type 0
WholeUnitIsRead =
    (at : ℕ) (bits : List Bool) (count place : ℕ) (frame : Frame) (fixes : ℕ)
    → has_sync bits ≡ true → need_of bits ≡ Length count → unit_item_of at (take count bits) ≡ Whole place frame fixes
    → IsWholeOf at (take count bits) place frame fixes
