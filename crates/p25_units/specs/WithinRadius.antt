-- Transmitted bits of a frame with few bit errors.
use Rattle.std.specs.Prelude.{◌≡◌, ◌≤◌, Bool, List, length, take}
use Rattle.p25_bits.specs.Distance.{distance_of}
use Rattle.p25_status.specs.{Sync.{sync_slack}, Woven.{bare_of, statuses_of}}
use Rattle.p25_unit_front.specs.Front.{identifier_bits}
use Rattle.p25_voice_units.specs.WithinRadius.{IsVoiceWithin, received_voice}
use Rattle.p25_packet_blocks.specs.Within.{AreBlocksWithin}
use Rattle.p25_units.specs.{UnitParts.{UnitParts}, Units.{image_of, unit_image_of}, declared.unit.Body.{Body}, declared.unit.Body.TheVariants.{Voice, Packet}}
use Rattle.p25_units.specs.declared.frame.Frame.{Frame}

-- bits are as many as a frame's, with at most 4 bit errors in the sync and 11 in the first 63 bits of the network identifier (NID)
pub record IsFrontWithin (frame : Frame) (sent : List Bool) : Type 0 where
  pub long : length sent ≡ length (image_of frame)
  pub sync : distance_of (take 48 sent) (take 48 (image_of frame)) ≤ sync_slack
  pub identifier : distance_of (take 63 (identifier_bits sent)) (take 63 (identifier_bits (image_of frame))) ≤ 11

-- the bits after sync and NID, without status symbols, have few bit errors: in a voice data unit no more than its codes correct; in a packet (PDU) at
-- most two in the header block and in each half-rate block, and one in each three-quarter-rate block
unfoldable pub IsBodyWithin : Body → List Bool → List Bool → Type 0
IsBodyWithin (Voice voice) image bare = IsVoiceWithin voice image bare
IsBodyWithin (Packet packet) image bare = AreBlocksWithin packet image bare

-- bits are those of a frame with few bit errors; the last bit of the NID, voice frames, status symbols and nulls are free
pub record IsWithinRadius (frame : Frame) (sent : List Bool) : Type 0 where
  pub front : IsFrontWithin frame sent
  pub body : IsBodyWithin frame.unit.body (unit_image_of frame.unit) (bare_of sent)

-- a body, with the voice frames of an LDU1 or an LDU2 as received
abbrev pub received_body : Body → List Bool → Body
received_body (Voice voice) bare = Voice (received_voice voice bare)
received_body (Packet packet) bare = Packet packet

-- a frame with the voice frames and the status symbols as received
abbrev pub received_frame : Frame → List Bool → Frame
received_frame frame sent =
    let unit : UnitParts = record { nac = frame.unit.nac; body = received_body frame.unit.body (bare_of sent) } in
    record { unit = unit; statuses = statuses_of sent }
