-- The decoding of the transmitted bits of a data unit.
use Rattle.std.specs.Prelude.{ℕ, Bool, if◌then◌else◌, ◌==◌, List, [], ◌∷◌, Option, Some, None, Result, Ok, Err}
use Rattle.p25_status.specs.{Woven.{bare_of, statuses_of}, declared.fields.Field.{Field}, declared.fields.Field.TheVariants.{Nid}}
use Rattle.p25_status.specs.declared.symbols.Status.{Status}
use Rattle.p25_bch_nid.specs.Duids.{duid_pdu}
use Rattle.p25_unit_front.specs.Front.{identifier_of}
use Rattle.p25_voice_units.specs.{declared.unit.VoiceUnit.{VoiceUnit}, Readings.{voice_reading_of}}
use Rattle.p25_packet_blocks.specs.{declared.packet.Packet.{Packet as packet_type}, Outcomes.{failing_blocks_of}, Reading.{packet_reading_of}}
use Rattle.p25_units.specs.{UnitParts.{UnitParts}, declared.unit.Body.{Body}, declared.unit.Body.TheVariants.{Voice, Packet}, declared.frame.Frame.{Frame}}

-- a decoded voice data unit (HDU, LDU1, LDU2, TDU or TDULC) as a body
abbrev pub body_from : Result VoiceUnit (List Field) → Result Body (List Field)
body_from (Ok voice) = Ok (Voice voice)
body_from (Err fields) = Err fields

-- a packet (PDU) as a body, if no field of it fails
abbrev pub whole_from : packet_type → List Field → Result Body (List Field)
whole_from packet [] = Ok (Packet packet)
whole_from packet (field ∷ fields) = Err (field ∷ fields)

-- a decoded packet (PDU) as a body: the header, the format and the packet CRC fail alone
unfoldable pub packet_body_from : Result packet_type Field → Result Body (List Field)
packet_body_from (Err field) = Err (field ∷ [])
packet_body_from (Ok packet) = whole_from packet (failing_blocks_of packet)

-- the body of a data unit of a DUID (HDU, LDU1, LDU2, TDU, TDULC or PDU), or exactly the fields that fail
unfoldable pub body_reading_of : ℕ → List Bool → Result Body (List Field)
body_reading_of duid bare = if duid == duid_pdu then packet_body_from (packet_reading_of bare) else body_from (voice_reading_of duid bare)

-- a frame, if its body was decoded
abbrev pub frame_from : ℕ → List Status → Result Body (List Field) → Result Frame (List Field)
frame_from nac statuses (Ok body) =
    let unit : UnitParts = record { nac = nac; body = body } in
    let frame : Frame = record { unit = unit; statuses = statuses } in
    Ok frame
frame_from nac statuses (Err fields) = Err fields

-- the frame of transmitted bits by their network identifier (NID)
unfoldable pub reading_from : Option (ℕ × ℕ) → List Bool → Result Frame (List Field)
reading_from None sent = Err (Nid ∷ [])
reading_from (Some nid) sent = frame_from nid.0 (statuses_of sent) (body_reading_of nid.1 (bare_of sent))

-- the frame of transmitted bits, or exactly the fields that fail
unfoldable pub unit_reading_of : List Bool → Result Frame (List Field)
unit_reading_of sent = reading_from (identifier_of sent) sent
