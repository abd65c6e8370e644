-- A refused data unit has a field that fails: by its type, and by the decoding of each of its fields.
use Rattle.std.proofs.Common.{◌≡◌, ℕ, ◌%◌, ◌<◌, inl, inr, Bool, List, [], ◌∷◌, length, take, Some, Result, Ok, Err, refl, ap, sym, ◌∙◌, arith}
use Rattle.std.specs.Prelude.{IfErr}
use Rattle.p25_status.specs.{Woven.{bare_of, statuses_of}, declared.fields.Field.{Field}}
use Rattle.p25_unit_front.specs.Front.{identifier_of}
use Rattle.p25_unit_front.proofs.FrontLaws.{identifier_of-take}
use Rattle.p25_voice_units.specs.{declared.unit.VoiceUnit.{VoiceUnit}, Readings.{voice_reading_of}}
use Rattle.p25_voice_units.proofs.FailuresLaws.{first_fails, voice_fails}
use Rattle.p25_packet_blocks.specs.{declared.packet.Packet.{Packet as packet_type}, Outcomes.{failing_blocks_of}, Reading.{packet_reading_of}}
use Rattle.p25_units.specs.{Needs.{need_of}, Readings.{body_from, whole_from, packet_body_from, body_reading_of, frame_from, unit_reading_of}, declared.unit.Body.{Body}, declared.frame.Frame.{Frame}}
use Rattle.p25_units.specs.declared.needs.Need.TheVariants.{Length}
use Rattle.p25_units.proofs.{NeedsLaws.{IsIdentified-from, need_of-there}, KindsLaws.{IsUnitOf, IsUnitOf-need}}
use Rattle.p25_units.proofs.ReadingsLaws.{body_reading_of-packet, body_reading_of-voice, reading_from-some, unit_reading_of-read}

-- Voice data units.

voice_body_fails : (reading : Result VoiceUnit (List Field)) (fields : List Field) → body_from reading ≡ Err fields → reading ≡ Err fields
voice_body_fails (Ok voice) fields e = absurd (cc)
voice_body_fails (Err other) fields e = let same : other ≡ fields = cc in ap Err same

-- Packets.

blocks_fail : (packet : packet_type) (failing : List Field) (fields : List Field) → whole_from packet failing ≡ Err fields → 0 < length fields
blocks_fail packet [] fields e = absurd (cc)
blocks_fail packet (field ∷ others) fields e = first_fails fields field others (cc)

packet_fails : (reading : Result packet_type Field) (fields : List Field) → packet_body_from reading ≡ Err fields → 0 < length fields
unfolding packet_body_from
packet_fails (Ok packet) fields e = blocks_fail packet (failing_blocks_of packet) fields e
packet_fails (Err field) fields e = first_fails fields field [] (cc)

-- Data units.

body_fails : (duid : ℕ) (sent : List Bool) (fields : List Field) → IsUnitOf duid sent → body_reading_of duid (bare_of sent) ≡ Err fields → 0 < length fields
body_fails duid sent fields unit e = elim unit.kind [
  | inl voice ↦
      voice_fails (bare_of sent) fields duid voice.bare voice.kind (voice_body_fails (voice_reading_of duid (bare_of sent)) fields (sym (body_reading_of-voice duid (bare_of sent) voice.other) ∙ e))
  | inr packet ↦
      packet_fails (packet_reading_of (bare_of sent)) fields (sym (body_reading_of-packet (bare_of sent)) ∙ ap (λ d. body_reading_of d (bare_of sent)) (sym packet.packet) ∙ e)
]

frame_fails : (nid : ℕ × ℕ) (sent : List Bool) (reading : Result Body (List Field)) (fields : List Field) → IsUnitOf nid.1 sent → body_reading_of nid.1 (bare_of sent) ≡ reading
    → frame_from nid.0 (statuses_of sent) reading ≡ Err fields → 0 < length fields
frame_fails nid sent (Ok body) fields unit read e = absurd (cc)
frame_fails nid sent (Err other) fields unit read e = let same : other ≡ fields = cc in body_fails nid.1 sent fields unit (read ∙ ap Err same)

-- a data unit whose length is known fails in a field or is decoded
pub unit_fails : (bits : List Bool) (count : ℕ) (fields : List Field) → need_of bits ≡ Length count → unit_reading_of (take count bits) ≡ Err fields → 0 < length fields
unit_fails bits count fields need e =
    let sent = take count bits in
    let found = IsIdentified-from bits count need in
    let bounds = need_of-there bits count need in
    let some : 72 < count = bounds.0 in
    let whole : count % 72 ≡ 0 = bounds.2 in
    let read : identifier_of sent ≡ Some found.nid = identifier_of-take count bits (omega arith) ∙ found.read in
    frame_fails found.nid sent (body_reading_of found.nid.1 (bare_of sent)) fields (IsUnitOf-need count bits found.nid.1 found.kind) refl
    (sym (reading_from-some found.nid sent) ∙ sym (unit_reading_of-read sent (Some found.nid) read) ∙ e)

-- so it is with a decoding of it
pub some_fields : (bits : List Bool) (count : ℕ) (reading : Result Frame (List Field))
    → need_of bits ≡ Length count → reading ≡ unit_reading_of (take count bits) → IfErr reading (λ fields. 0 < length fields)
some_fields bits count (Ok frame) need is = tt
some_fields bits count (Err fields) need is = unit_fails bits count fields need (sym is)
