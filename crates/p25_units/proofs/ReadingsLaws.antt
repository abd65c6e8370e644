-- The decoding of data units: a decoded frame is sound, sendable and as long as its bits, and bits with few bit errors decode to the frame. By cases
-- of its body.
use Rattle.std.proofs.Common.{◌≡◌, ◌≢◌, ℕ, ◌*◌, inl, inr, Bool, eqb, List, [], ◌∷◌, length, Option, Some, Result, Ok, Err, refl, ap, sym, ◌∙◌, subst, arith}
use Rattle.std.proofs.lemmas.Bool.{cases_eq, cond-false, ne_eqb}
use Rattle.std.specs.Option.{unwrap_or}
use Rattle.p25_status.specs.{Woven.{bare_of, statuses_of}, declared.fields.Field.{Field}, declared.symbols.Status.{Status}}
use Rattle.p25_status.proofs.WovenLaws.{length-statuses_of}
use Rattle.p25_unit_front.specs.Front.{identifier_of}
use Rattle.p25_voice_units.specs.{declared.unit.VoiceUnit.{VoiceUnit}, Lengths.{voice_duid, voice_length_of}, Readings.{voice_reading_of}, Images.{voice_image_of}, WithinRadius.{IsVoiceWithin}}
pub use Rattle.p25_voice_units.proofs.RadiusLaws.{IsVoiceImage-same}
use Rattle.p25_voice_units.proofs.{RadiusLaws.{voice_within, voice_whole}, ReadingLaws.{IsUnitOf as IsVoiceOf, unit_read}}
use Rattle.p25_packet_blocks.specs.{declared.head.PacketHead.{PacketHead}, declared.block.Slot.TheVariants.{Good, Bad}, declared.packet.Packet.{Packet as packet_type}}
use Rattle.p25_packet_blocks.specs.{declared.packet.Packet.TheVariants.{Confirmed, Plain}, Heads.{head_blocks}, Lengths.{packet_sent_length}, Outcomes.{failing_blocks_of}}
use Rattle.p25_packet_blocks.specs.{Reading.{head_reading_of, packet_reading_of}, Sendable.{IsSendable}, Whole.{packet_head, IsWholePacket}}
use Rattle.p25_packet_blocks.proofs.{NearLaws.{half_near, three_quarter_near}, OutcomeLaws.{IsWholePacket-none, failing_blocks_of-none}, RadiusLaws.{packet_within}, WholeLaws.{IsWholeRead-reading}}
use Rattle.p25_units.specs.{UnitParts.{UnitParts}, Units.{body_duid, body_length, body_image_of, unit_image_of, sent_length, frame_length_of, IsWholeBody, IsSoundFrame, IsSendableBody}}
use Rattle.p25_units.specs.{Readings.{body_from, whole_from, packet_body_from, body_reading_of, frame_from, reading_from, unit_reading_of}, WholeLaws.{IsBodyRead}}
use Rattle.p25_units.specs.{WithinRadius.{IsBodyWithin, received_body}, declared.unit.Body.{Body}, declared.unit.Body.TheVariants.{Voice, Packet}, declared.frame.Frame.{Frame}}
use Rattle.p25_units.proofs.{UnitsLaws.{body_length-known, sent_length-packet}, NeedsLaws.{voice-other}, KindsLaws.{IsUnitOf}}

-- a frame
pub frame_of : ℕ → List Status → Body → Frame
frame_of nac statuses body = let unit : UnitParts = record { nac = nac; body = body } in record { unit = unit; statuses = statuses }

-- by the decoding
pub reading_from-some : (nid : ℕ × ℕ) (sent : List Bool) → reading_from (Some nid) sent ≡ frame_from nid.0 (statuses_of sent) (body_reading_of nid.1 (bare_of sent))
unfolding reading_from
reading_from-some nid sent = refl

pub unit_reading_of-read : (sent : List Bool) (read : Option (ℕ × ℕ)) → identifier_of sent ≡ read → unit_reading_of sent ≡ reading_from read sent
unfolding unit_reading_of
unit_reading_of-read sent read is = ap (λ r. reading_from r sent) is

pub body_reading_of-packet : (bare : List Bool) → body_reading_of 0xC bare ≡ packet_body_from (packet_reading_of bare)
unfolding body_reading_of
body_reading_of-packet bare = refl

pub packet_body_from-read : (packet : packet_type) → packet_body_from (Ok packet) ≡ whole_from packet (failing_blocks_of packet)
unfolding packet_body_from
packet_body_from-read packet = refl

pub body_reading_of-voice : (duid : ℕ) (bare : List Bool) → duid ≢ 0xC → body_reading_of duid bare ≡ body_from (voice_reading_of duid bare)
unfolding body_reading_of
body_reading_of-voice duid bare other = cond-false (eqb duid 0xC) (packet_body_from (packet_reading_of bare)) (body_from (voice_reading_of duid bare)) (ne_eqb duid 0xC other)

-- a sendable packet is whole
pub IsWholePacket-sendable : (packet : packet_type) → IsSendable packet → IsWholePacket packet
unfolding IsSendable IsWholePacket
IsWholePacket-sendable (Confirmed packet) sendable = record {
  at = λ j inside bad.
      let good = sendable.good.at j (omega (arith, inside, sendable.kind.count)) in let two : Good good.0 ≡ Bad = sym good.1 ∙ bad in cc;
}
IsWholePacket-sendable (Plain packet) sendable = tt

-- a sendable body is whole
pub IsWholeBody-sendable : (body : Body) → IsSendableBody body → IsWholeBody body
unfolding IsWholeBody IsSendableBody
IsWholeBody-sendable (Voice voice) sendable = tt
IsWholeBody-sendable (Packet packet) sendable = IsWholePacket-sendable packet sendable

-- The decoding.

-- the header of a packet, on which the length of its data unit depends
abbrev HasHead : Body → List Bool → Type 0
HasHead (Voice voice) bare = Unit {0}
HasHead (Packet packet) bare = head_reading_of bare ≡ Ok (packet_head packet)

-- a decoded body has the DUID, is whole and sendable, and is the decoding of the received bits
pub record IsBodyOf (duid : ℕ) (bare : List Bool) (body : Body) : Type 0 where
  pub duid_is : body_duid body ≡ duid
  pub whole : IsWholeBody body
  pub sendable : IsSendableBody body
  pub read : (nac : ℕ) → IsBodyRead body (body_image_of nac body) bare
  pub head : HasHead body bare

IsBodyOf-packet : (bare : List Bool) (packet : packet_type) → packet_reading_of bare ≡ Ok packet → failing_blocks_of packet ≡ [] → IsBodyOf 0xC bare (Packet packet)
unfolding IsWholeBody IsSendableBody IsBodyRead
IsBodyOf-packet bare packet read none =
    let whole = IsWholePacket-none packet none in
    let is = IsWholeRead-reading bare packet read whole in
    record { duid_is = refl; whole = whole; sendable = is.sendable; read = λ nac. is.read; head = is.head }

packet_body-whole : (bare : List Bool) (packet : packet_type) (fields : List Field) (body : Body)
    → packet_reading_of bare ≡ Ok packet → failing_blocks_of packet ≡ fields → whole_from packet fields ≡ Ok body → IsBodyOf 0xC bare body
packet_body-whole bare packet [] body read none e = let same : Packet packet ≡ body = cc in subst (IsBodyOf 0xC bare) same (IsBodyOf-packet bare packet read none)
packet_body-whole bare packet (field ∷ fields) body read some e = absurd (cc)

packet_body-from : (bare : List Bool) (reading : Result packet_type Field) (body : Body) → packet_reading_of bare ≡ reading → packet_body_from reading ≡ Ok body → IsBodyOf 0xC bare body
unfolding packet_body_from
packet_body-from bare (Err field) body read e = absurd (cc)
packet_body-from bare (Ok packet) body read e = packet_body-whole bare packet (failing_blocks_of packet) body read refl e

-- a decoded voice data unit is within the correction radius of its own bits
voice_read : (nac duid : ℕ) (bare : List Bool) (voice : VoiceUnit) (unit : IsVoiceOf duid voice) → voice_reading_of duid bare ≡ Ok voice → IsVoiceWithin voice (voice_image_of nac voice) bare
voice_read nac duid bare voice unit is =
    voice_whole nac voice (voice_image_of nac voice) bare (IsVoiceImage-same nac voice unit.sendable) (ap (λ d. voice_reading_of d bare) unit.kind ∙ is)

voice_body-from : (duid : ℕ) (bare : List Bool) (reading : Result VoiceUnit (List Field)) (body : Body) → voice_reading_of duid bare ≡ reading → body_from reading ≡ Ok body → IsBodyOf duid bare body
unfolding IsWholeBody IsSendableBody IsBodyRead
voice_body-from duid bare (Ok voice) body is e =
    let same : Voice voice ≡ body = cc in
    let unit = unit_read duid bare voice is in
    let read : IsBodyOf duid bare (Voice voice) = record {
      duid_is = unit.kind;
      whole = tt;
      sendable = unit.sendable;
      read = λ nac. voice_read nac duid bare voice unit is;
      head = tt;
    } in
    subst (IsBodyOf duid bare) same read
voice_body-from duid bare (Err fields) body is e = absurd (cc)

pub IsBodyOf-reading : (duid : ℕ) (bare : List Bool) (body : Body) → body_reading_of duid bare ≡ Ok body → IsBodyOf duid bare body
IsBodyOf-reading duid bare body e =
    elim (cases_eq duid 0xC) [
      | inl packet ↦
          let here : packet_body_from (packet_reading_of bare) ≡ Ok body = sym (body_reading_of-packet bare) ∙ ap (λ d. body_reading_of d bare) (sym packet) ∙ e in
          subst (λ (d : ℕ). IsBodyOf d bare body) (sym packet) (packet_body-from bare (packet_reading_of bare) body refl here)
      | inr other ↦ voice_body-from duid bare (voice_reading_of duid bare) body refl (sym (body_reading_of-voice duid bare other) ∙ e)
    ]

-- its length is that of the data unit's bits
length_of_body : (duid : ℕ) (sent : List Bool) (body : Body) → IsUnitOf duid sent → IsBodyOf duid (bare_of sent) body → sent_length (body_length body) ≡ length sent
length_of_body duid sent (Voice voice) unit is = elim unit.kind [
  | inl kind ↦ ap (λ d. sent_length (unwrap_or (voice_length_of d) 0)) is.duid_is ∙ ap (λ found. sent_length (unwrap_or found 0)) kind.kind ∙ sym kind.is
  | inr kind ↦ absurd (packet_is_no_voice voice (is.duid_is ∙ kind.packet))
]
  where
    packet_is_no_voice : (voice : VoiceUnit) → body_duid (Voice voice) ≡ 0xC → ⊥
    packet_is_no_voice voice is = voice-other (voice_duid voice) (body_length (Voice voice)) (body_length-known voice) is
length_of_body duid sent (Packet packet) unit is = elim unit.kind [
  | inl kind ↦ absurd (kind.other (sym is.duid_is))
  | inr kind ↦
      let two : Ok (packet_head packet) ≡ Ok kind.head = sym is.head ∙ kind.read in
      let same : packet_head packet ≡ kind.head = cc in
      sent_length-packet (head_blocks (packet_head packet)) ∙ ap (λ (head : PacketHead). packet_sent_length (head_blocks head)) same ∙ sym kind.is
]

-- a decoded frame has the transmitted identifier and status symbols, is sound and sendable, and is as long as its bits
pub record IsFrameOf (nid : ℕ × ℕ) (sent : List Bool) (frame : Frame) : Type 0 where
  pub nac : frame.unit.nac ≡ nid.0
  pub duid : body_duid frame.unit.body ≡ nid.1
  pub statuses : frame.statuses ≡ statuses_of sent
  pub sound : IsSoundFrame frame
  pub sendable : IsSendableBody frame.unit.body
  pub long : frame_length_of frame.unit ≡ length sent
  pub read : IsBodyRead frame.unit.body (unit_image_of frame.unit) (bare_of sent)

IsFrameOf-body : (nid : ℕ × ℕ) (sent : List Bool) (body : Body) → IsUnitOf nid.1 sent → body_reading_of nid.1 (bare_of sent) ≡ Ok body → IsFrameOf nid sent (frame_of nid.0 (statuses_of sent) body)
unfolding frame_length_of frame_of unit_image_of
IsFrameOf-body nid sent body unit read =
    let is = IsBodyOf-reading nid.1 (bare_of sent) body read in
    let whole = length_of_body nid.1 sent body unit is in
    let symbols : length (statuses_of sent) ≡ unit.blocks = length-statuses_of unit.blocks sent unit.long in
    record {
      nac = refl;
      duid = is.duid_is;
      statuses = refl;
      sound = record { whole = is.whole; symbols = ap (λ n. 72 * n) symbols ∙ sym unit.long ∙ sym whole };
      sendable = is.sendable;
      long = whole;
      read = is.read nid.0;
    }

frame_from-frame : (nid : ℕ × ℕ) (sent : List Bool) (reading : Result Body (List Field)) (frame : Frame) → IsUnitOf nid.1 sent → body_reading_of nid.1 (bare_of sent) ≡ reading
    → frame_from nid.0 (statuses_of sent) reading ≡ Ok frame → IsFrameOf nid sent frame
unfolding frame_of
frame_from-frame nid sent (Ok body) frame unit read e =
    let same : frame_of nid.0 (statuses_of sent) body ≡ frame = cc in
    subst (λ (f : Frame). IsFrameOf nid sent f) same (IsFrameOf-body nid sent body unit read)
frame_from-frame nid sent (Err fields) frame unit read e = absurd (cc)

pub IsFrameOf-reading : (nid : ℕ × ℕ) (sent : List Bool) (frame : Frame) → IsUnitOf nid.1 sent → reading_from (Some nid) sent ≡ Ok frame → IsFrameOf nid sent frame
IsFrameOf-reading nid sent frame unit e = frame_from-frame nid sent (body_reading_of nid.1 (bare_of sent)) frame unit refl (sym (reading_from-some nid sent) ∙ e)

-- Bits within the correction radius.

-- a packet decodes to itself
pub packet_reading_of-near : (nac : ℕ) (packet : packet_type) (bare : List Bool)
    → IsSendable packet → IsBodyWithin (Packet packet) (body_image_of nac (Packet packet)) bare → packet_reading_of bare ≡ Ok packet
unfolding IsBodyWithin
packet_reading_of-near nac packet bare sendable within = packet_within half_near three_quarter_near nac packet bare sendable within

-- and so its header does
pub head_reading_of-near : (nac : ℕ) (packet : packet_type) (bare : List Bool)
    → IsSendable packet → IsBodyWithin (Packet packet) (body_image_of nac (Packet packet)) bare → head_reading_of bare ≡ Ok (packet_head packet)
head_reading_of-near nac packet bare sendable within =
    (IsWholeRead-reading bare packet (packet_reading_of-near nac packet bare sendable within) (IsWholePacket-sendable packet sendable)).head

packet_body_from-whole : (packet : packet_type) → IsWholePacket packet → packet_body_from (Ok packet) ≡ Ok (Packet packet)
packet_body_from-whole packet whole = packet_body_from-read packet ∙ ap (whole_from packet) (failing_blocks_of-none packet whole)

-- bits within the correction radius of those of a body decode to it, with the voice frames as received
pub body_reading_of-near : (nac : ℕ) (body : Body) (bare : List Bool) → IsSendableBody body → length bare ≡ length (body_image_of nac body) → IsBodyWithin body (body_image_of nac body) bare
    → body_reading_of (body_duid body) bare ≡ Ok (received_body body bare)
unfolding IsSendableBody IsBodyWithin
body_reading_of-near nac (Voice voice) bare sendable long within =
    body_reading_of-voice (voice_duid voice) bare (voice-other (voice_duid voice) (body_length (Voice voice)) (body_length-known voice))
    ∙ ap body_from (voice_within nac voice (voice_image_of nac voice) bare sendable (IsVoiceImage-same nac voice sendable) long within)
body_reading_of-near nac (Packet packet) bare sendable long within =
    body_reading_of-packet bare
    ∙ ap packet_body_from (packet_reading_of-near nac packet bare sendable within)
    ∙ packet_body_from-whole packet (IsWholePacket-sendable packet sendable)
