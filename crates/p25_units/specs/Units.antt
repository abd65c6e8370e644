-- The bits of data units (HDU, LDU1, LDU2, TDU, TDULC and PDU), with and without status symbols.
use Rattle.std.specs.{Prelude.{◌≡◌, ◌≤◌, ℕ, ◌*◌, ◌/◌, Bool, List, length, replicate}, Option.{unwrap_or}}
use Rattle.p25_bits.specs.Numbers.{octets_from}
use Rattle.p25_status.specs.{Woven.{woven}, declared.symbols.Status.{Status}}
use Rattle.p25_bch_nid.specs.Duids.{duid_pdu}
use Rattle.p25_voice_units.specs.{Images.{voice_image_of}, Lengths.{voice_duid, voice_length_of}, Sendable.{IsSendableVoice}}
use Rattle.p25_packet_blocks.specs.{Heads.{head_blocks}, Whole.{packet_head, IsWholePacket}, Lengths.{packet_bare_length}, Image.{packet_image_of}}
use Rattle.p25_packet_blocks.specs.Sendable.{IsSendable}
use Rattle.p25_units.specs.{UnitParts.{UnitParts}, declared.unit.Body.{Body}, declared.unit.Body.TheVariants.{Voice, Packet}, declared.frame.Frame.{Frame}}

-- the data unit identifier (DUID) of a body
abbrev pub body_duid : Body → ℕ
body_duid (Voice voice) = voice_duid voice
body_duid (Packet packet) = duid_pdu

-- the number of bits of a data unit without status symbols, by its body
abbrev pub body_length : Body → ℕ
body_length (Voice voice) = unwrap_or (voice_length_of (voice_duid voice)) 0
body_length (Packet packet) = packet_bare_length (head_blocks (packet_head packet))

-- the bits of a data unit without status symbols, by its body
abbrev pub body_image_of : ℕ → Body → List Bool
body_image_of nac (Voice voice) = voice_image_of nac voice
body_image_of nac (Packet packet) = packet_image_of nac packet

-- the bits of a data unit without status symbols
unfoldable pub unit_image_of : UnitParts → List Bool
unit_image_of unit = body_image_of unit.nac unit.body

-- the number of transmitted bits for a number of bits of a data unit: 72 for every 70
abbrev pub sent_length : ℕ → ℕ
sent_length bare = bare / 70 * 72

-- the number of transmitted bits of a data unit
unfoldable pub frame_length_of : UnitParts → ℕ
frame_length_of unit = sent_length (body_length unit.body)

-- the transmitted bits of a frame
unfoldable pub image_of : Frame → List Bool
image_of frame = woven (unit_image_of frame.unit) frame.statuses

-- a frame under another network access code (NAC), with other status symbols
abbrev pub frame_as : ℕ → List Status → Frame → Frame
frame_as nac statuses frame =
    let unit : UnitParts = record { nac = nac; body = frame.unit.body } in
    record { unit = unit; statuses = statuses }

-- the frame of a data unit with one status symbol everywhere
abbrev pub filled_frame : Status → UnitParts → Frame
filled_frame status unit = record { unit = unit; statuses = replicate (frame_length_of unit / 72) status }

-- the octets that bits fill, the most significant bit first
abbrev pub whole_octets : List Bool → List ℕ
whole_octets bits = octets_from (length bits / 8) bits

-- the octets of a data unit's image with one status symbol everywhere
abbrev pub image_octets : Status → UnitParts → List ℕ
image_octets status unit = whole_octets (image_of (filled_frame status unit))

-- nothing fails in a body: no slot of a packet is `Bad`
unfoldable pub IsWholeBody : Body → Type 0
IsWholeBody (Voice voice) = Unit {0}
IsWholeBody (Packet packet) = IsWholePacket packet

-- a frame is sound: a packet in it is whole, and there is a status symbol for each 72 of its bits
pub record IsSoundFrame (frame : Frame) : Type 0 where
  pub whole : IsWholeBody frame.unit.body
  pub symbols : 72 * length frame.statuses ≡ frame_length_of frame.unit

-- a body is sendable: nothing of it fails, and it has the invariants of its types
unfoldable pub IsSendableBody : Body → Type 0
IsSendableBody (Voice voice) = IsSendableVoice voice
IsSendableBody (Packet packet) = IsSendable packet

-- a sendable data unit: its network access code has 12 bits
pub record IsSendableUnit (unit : UnitParts) : Type 0 where
  pub nac_fits : unit.nac ≤ 4095
  pub body : IsSendableBody unit.body
