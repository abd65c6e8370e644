-- The bits of data units: each type has its length and begins with sync and NID.
use Rattle.std.proofs.{Common.{◌≡◌, List, ℕ, ◌*◌, ◌/◌, ◌%◌, ◌<◌, ◌≤◌, length, take, Some, ap, sym, ◌∙◌, arith}, lemmas.List.{take_at}}
use Rattle.std.specs.Option.{unwrap_or}
use Rattle.p25_status.specs.{Woven.{bare_of, statuses_of}, declared.symbols.Status.{Status}}
use Rattle.p25_status.proofs.WovenLaws.{length-woven, bare_of-woven, statuses_of-woven}
use Rattle.p25_unit_front.specs.Front.{unit_front, front_of}
use Rattle.p25_unit_front.proofs.FrontLaws.{length-unit_front, front_of-bare_of}
use Rattle.p25_voice_units.specs.{declared.unit.VoiceUnit.{VoiceUnit}, declared.unit.VoiceUnit.TheVariants.{Header}, Images.{voice_body, voice_image_of}, Lengths.{voice_duid, voice_length_of}}
use Rattle.p25_voice_units.proofs.{ImagesLaws.{length-voice_image_of}, LengthsLaws.{length-known, voice_lengths}}
use Rattle.p25_packet_blocks.specs.{Heads.{head_blocks}, Lengths.{packet_bare_length, packet_sent_length}, Whole.{packet_head}}
use Rattle.p25_packet_blocks.proofs.{HeadLaws.{head_blocks-lt}, PlacesLaws.{image_long, image_front}}
use Rattle.p25_units.specs.UnitParts.{UnitParts}
use Rattle.p25_units.specs.Units.{body_duid, body_length, body_image_of, unit_image_of, sent_length, frame_length_of, image_of, frame_as, IsSoundFrame, IsSendableBody, IsSendableUnit}
use Rattle.p25_units.specs.{declared.unit.Body.{Body}, declared.unit.Body.TheVariants.{Voice, Packet}, declared.frame.Frame.{Frame}}

-- the transmitted length for a length without status symbols
pub record IsSentLength (bare : ℕ) : Type 0 where
  pub blocks : ℕ
  pub fills : bare ≡ 70 * blocks
  pub sent : sent_length bare ≡ 72 * blocks
  pub least : 2 ≤ blocks
  pub most : blocks ≤ 360

-- whole blocks of 70, at least sync and NID and at most the longest data unit
pub IsSentLength-from : (bare : ℕ) → 112 ≤ bare → bare ≤ 25200 → bare % 70 ≡ 0 → IsSentLength bare
IsSentLength-from bare least most whole = record {
  blocks = bare / 70;
  fills = omega arith;
  sent = omega arith;
  least = omega arith;
  most = omega arith;
}

pub IsSentLength-voice : (duid bare : ℕ) → voice_length_of duid ≡ Some bare → IsSentLength bare
IsSentLength-voice duid bare is = let bounds = voice_lengths duid bare is in IsSentLength-from bare bounds.0 (omega (arith, bounds.1)) bounds.2

pub body_length-voice : (voice : VoiceUnit) (bare : ℕ) → voice_length_of (voice_duid voice) ≡ Some bare → body_length (Voice voice) ≡ bare
body_length-voice voice bare is = ap (λ found. unwrap_or found 0) is

-- each type of voice data unit has a length
pub body_length-known : (voice : VoiceUnit) → voice_length_of (voice_duid voice) ≡ Some (body_length (Voice voice))
body_length-known voice = length-known voice

-- the transmitted length of a packet
pub sent_length-packet : (n : ℕ) → sent_length (packet_bare_length n) ≡ packet_sent_length n
sent_length-packet n = omega arith

-- the length of a body
pub IsSentLength-body : (body : Body) → IsSentLength (body_length body)
IsSentLength-body (Voice voice) = IsSentLength-voice (voice_duid voice) (body_length (Voice voice)) (body_length-known voice)
IsSentLength-body (Packet packet) =
    let n = head_blocks (packet_head packet) in
    let few = head_blocks-lt (packet_head packet) in
    IsSentLength-from (packet_bare_length n) (omega arith) (omega (arith, few)) (omega arith)

-- DUIDs have 4 bits
pub body_duid-lt : (body : Body) → body_duid body < 16
body_duid-lt (Voice (Header word)) = omega arith
body_duid-lt body = omega arith

-- the bits of a data unit have its length
pub length-body_image_of : (nac : ℕ) (body : Body) → IsSendableBody body → length (body_image_of nac body) ≡ body_length body
unfolding IsSendableBody
length-body_image_of nac (Voice voice) sendable = sym (body_length-voice voice (length (voice_image_of nac voice)) (length-voice_image_of nac voice sendable))
length-body_image_of nac (Packet packet) sendable = image_long nac packet sendable

pub length-unit_image_of : (unit : UnitParts) → IsSendableBody unit.body → length (unit_image_of unit) ≡ body_length unit.body
unfolding unit_image_of
length-unit_image_of unit sendable = length-body_image_of unit.nac unit.body sendable

-- a data unit begins with its sync and NID
pub body_image_of-front : (nac : ℕ) (body : Body) → IsSendableBody body → take 112 (body_image_of nac body) ≡ unit_front nac (body_duid body)
unfolding voice_image_of IsSendableBody
body_image_of-front nac (Voice voice) sendable = take_at (unit_front nac (voice_duid voice)) (voice_body voice) 112 (length-unit_front nac (voice_duid voice))
body_image_of-front nac (Packet packet) sendable = image_front nac packet sendable

pub unit_image_of-front : (unit : UnitParts) → IsSendableBody unit.body → take 112 (unit_image_of unit) ≡ unit_front unit.nac (body_duid unit.body)
unfolding unit_image_of
unit_image_of-front unit sendable = body_image_of-front unit.nac unit.body sendable

-- a sound frame has a status symbol for each 70 bits of its data unit
pub symbols-sound : (frame : Frame) → IsSoundFrame frame → body_length frame.unit.body ≡ 70 * length frame.statuses
unfolding frame_length_of
symbols-sound frame sound =
    let is = IsSentLength-body frame.unit.body in
    omega (arith, sound.symbols, is.fills, is.sent)

pub symbols-image : (frame : Frame) → IsSoundFrame frame → IsSendableUnit frame.unit → length (unit_image_of frame.unit) ≡ 70 * length frame.statuses
symbols-image frame sound sendable = length-unit_image_of frame.unit sendable.body ∙ symbols-sound frame sound

-- the transmitted bits of a sound frame
pub length-image_of-blocks : (frame : Frame) → IsSoundFrame frame → IsSendableUnit frame.unit → length (image_of frame) ≡ 72 * length frame.statuses
unfolding image_of
length-image_of-blocks frame sound sendable = length-woven (unit_image_of frame.unit) frame.statuses (symbols-image frame sound sendable)

pub length-image_of : (frame : Frame) → IsSoundFrame frame → IsSendableUnit frame.unit → length (image_of frame) ≡ frame_length_of frame.unit
length-image_of frame sound sendable = length-image_of-blocks frame sound sendable ∙ sound.symbols

pub bare_of-image_of : (frame : Frame) → IsSoundFrame frame → IsSendableUnit frame.unit → bare_of (image_of frame) ≡ unit_image_of frame.unit
unfolding image_of
bare_of-image_of frame sound sendable = bare_of-woven (unit_image_of frame.unit) frame.statuses (symbols-image frame sound sendable)

pub statuses_of-image_of : (frame : Frame) → IsSoundFrame frame → IsSendableUnit frame.unit → statuses_of (image_of frame) ≡ frame.statuses
unfolding image_of
statuses_of-image_of frame sound sendable = statuses_of-woven (unit_image_of frame.unit) frame.statuses (symbols-image frame sound sendable)

-- a sound frame has at least two blocks
pub blocks-sound : (frame : Frame) → IsSoundFrame frame → (2 ≤ length frame.statuses) × (length frame.statuses ≤ 360)
blocks-sound frame sound =
    let is = IsSentLength-body frame.unit.body in
    (omega (arith, symbols-sound frame sound, is.fills, is.least), omega (arith, symbols-sound frame sound, is.fills, is.most))

-- sync and NID of its transmitted bits
pub front_of-image_of : (frame : Frame) → IsSoundFrame frame → IsSendableUnit frame.unit → front_of (image_of frame) ≡ unit_front frame.unit.nac (body_duid frame.unit.body)
front_of-image_of frame sound sendable =
    sym (front_of-bare_of (length frame.statuses) (image_of frame) (blocks-sound frame sound).0 (length-image_of-blocks frame sound sendable))
    ∙ ap (take 112) (bare_of-image_of frame sound sendable)
    ∙ unit_image_of-front frame.unit sendable.body

-- a frame under another network access code
pub IsSoundFrame-frame_as : (nac : ℕ) (statuses : List Status) (frame : Frame) → IsSoundFrame frame → length statuses ≡ length frame.statuses → IsSoundFrame (frame_as nac statuses frame)
unfolding frame_length_of
IsSoundFrame-frame_as nac statuses frame sound same = record {
  whole = sound.whole;
  symbols = ap (λ n. 72 * n) same ∙ sound.symbols;
}
