-- Bits within the correction radius of a frame's image have its sync, its NID and its length, and decode to the frame.
use Rattle.std.proofs.Common.{◌≡◌, ℕ, ◌*◌, ◌≤◌, Bool, true, List, ◌++◌, length, take, Some, Ok, refl, ap, ap₂, sym, ◌∙◌, subst, arith, length-append}
use Rattle.p25_bits.specs.Distance.{distance_of}
use Rattle.p25_bits.proofs.DistanceLaws.{distance_of-same}
use Rattle.p25_status.specs.{Sync.{sync_slack, has_sync}, Woven.{bare_of, statuses_of}, declared.symbols.Status.{Status}}
use Rattle.p25_status.proofs.{SyncLaws.{has_sync-yes, has_sync-append}, WovenLaws.{length-bare_of}}
use Rattle.p25_unit_front.specs.Front.{identifier_bits, identifier_of}
use Rattle.p25_unit_front.proofs.FrontLaws.{front_of-sync, front_of-identifier, identifier_of-near, identifier_of-append}
use Rattle.p25_voice_units.specs.{Images.{voice_image_of}, Lengths.{voice_duid}}
use Rattle.p25_voice_units.proofs.RadiusLaws.{within_itself, received_itself}
use Rattle.p25_packet_blocks.specs.{Heads.{head_blocks}, Reading.{header_bits, block_bits}, Whole.{packet_head}, Within.{block_radius}, Image.{packet_image_of}}
use Rattle.p25_packet_blocks.proofs.{SentLaws.{sent_head_of-bare_of}, UnitLaws.{sent_head_of-append}}
use Rattle.p25_units.specs.{Units.{body_duid, body_length, body_image_of, unit_image_of, sent_length, frame_length_of, image_of, IsSoundFrame, IsSendableBody, IsSendableUnit}, UnitParts.{UnitParts}}
use Rattle.p25_units.specs.{Fixes.{fixes_of}, Items.{unit_item_of}, Needs.{length_need, head_need, kind_need, need_of}, Readings.{frame_from, reading_from, unit_reading_of}}
use Rattle.p25_units.specs.{WithinRadius.{IsBodyWithin, IsWithinRadius, received_body, received_frame}, declared.unit.Body.{Body}, declared.unit.Body.TheVariants.{Voice, Packet}}
use Rattle.p25_units.specs.{declared.frame.Frame.{Frame}, declared.needs.Need.TheVariants.{Length}, declared.item.Item.TheVariants.{Whole}}
use Rattle.p25_units.proofs.UnitsLaws.{body_duid-lt, body_length-known, sent_length-packet, symbols-sound, symbols-image, front_of-image_of, length-image_of, length-image_of-blocks, blocks-sound, bare_of-image_of, statuses_of-image_of}
use Rattle.p25_units.proofs.NeedsLaws.{need_of-synced, synced_need-read, identified_need-some, kind_need-voice, kind_need-packet, packet_need-long, head_need-good, length_need-there}
use Rattle.p25_units.proofs.{ReadingsLaws.{IsVoiceImage-same, reading_from-some, unit_reading_of-read, body_reading_of-near, head_reading_of-near}, ItemsLaws.{unit_item_of-some}}

module _ (frame : Frame) (sound : IsSoundFrame frame) (sendable : IsSendableUnit frame.unit) where
  -- the transmitted bits of a sound frame are at least 144
  long_image : 144 ≤ length (image_of frame)
  long_image = omega (arith, length-image_of-blocks frame sound sendable, (blocks-sound frame sound).0)

  long_sent : (sent : List Bool) → IsWithinRadius frame sent → 144 ≤ length sent
  long_sent sent near = omega (arith, near.front.long, long_image)

  -- they have the sync
  pub has_sync-near : (sent : List Bool) → IsWithinRadius frame sent → has_sync sent ≡ true
  has_sync-near sent near =
      let image = image_of frame in
      let long : 48 ≤ length image = omega (arith, long_image) in
      let is = front_of-sync frame.unit.nac (body_duid frame.unit.body) image long (front_of-image_of frame sound sendable) in
      has_sync-yes sent (omega (arith, long_sent sent near)) (subst (λ (xs : List Bool). distance_of (take 48 sent) xs ≤ sync_slack) is near.front.sync)

  -- and the identifier
  pub identifier_of-within : (sent : List Bool) → IsWithinRadius frame sent → identifier_of sent ≡ Some (frame.unit.nac, body_duid frame.unit.body)
  identifier_of-within sent near =
      let image = image_of frame in
      let duid = body_duid frame.unit.body in
      let long : 48 ≤ length image = omega (arith, long_image) in
      let is = front_of-identifier frame.unit.nac duid image long (front_of-image_of frame sound sendable) in
      identifier_of-near frame.unit.nac duid sent (omega (arith, sendable.nac_fits)) (body_duid-lt frame.unit.body) (omega (arith, long_sent sent near))
      (subst (λ (xs : List Bool). distance_of (take 63 (identifier_bits sent)) (take 63 xs) ≤ 11) is near.front.identifier)

-- the need of a data unit is its length: of a voice data unit by its DUID, of a packet by its header
kind_need-near : (nac : ℕ) (body : Body) (blocks : ℕ) (sent more : List Bool)
    → IsSendableBody body → IsBodyWithin body (body_image_of nac body) (bare_of sent) → length sent ≡ 72 * blocks → body_length body ≡ 70 * blocks
    → kind_need (body_duid body) (sent ++ more) ≡ length_need (sent_length (body_length body)) (length (sent ++ more))
unfolding IsSendableBody
kind_need-near nac (Voice voice) blocks sent more sendable within long fills =
    kind_need-voice (voice_duid voice) (body_length (Voice voice)) (sent ++ more) (body_length-known voice)
kind_need-near nac (Packet packet) blocks sent more sendable within long fills =
    let all = sent ++ more in
    let head = packet_head packet in
    let five : 5 ≤ blocks = omega (arith, fills) in
    let there : 316 ≤ length sent = omega (arith, long, five) in
    let read = sent_head_of-append sent more there ∙ sent_head_of-bare_of blocks sent five long ∙ head_reading_of-near nac packet (bare_of sent) sendable within in
    kind_need-packet all
    ∙ packet_need-long all (omega (arith, length-append sent more, there))
    ∙ ap (λ reading. head_need reading (length all)) read
    ∙ head_need-good head (length all)
    ∙ ap (λ n. length_need n (length all)) (sym (sent_length-packet (head_blocks head)))

-- so they have the length
pub need_of-near : (frame : Frame) (sent more : List Bool) → IsSoundFrame frame → IsSendableUnit frame.unit → IsWithinRadius frame sent → need_of (sent ++ more) ≡ Length (length sent)
unfolding frame_length_of unit_image_of
need_of-near frame sent more sound sendable near =
    let all = sent ++ more in
    let body = frame.unit.body in
    let duid = body_duid body in
    let long = long_sent frame sound sendable sent near in
    let synced = has_sync-append sent more (omega arith) ∙ has_sync-near frame sound sendable sent near in
    let read = identifier_of-append sent more (omega arith) ∙ identifier_of-within frame sound sendable sent near in
    let is : length sent ≡ sent_length (body_length body) = near.front.long ∙ length-image_of frame sound sendable in
    let blocks : length sent ≡ 72 * length frame.statuses = near.front.long ∙ length-image_of-blocks frame sound sendable in
    let enough : sent_length (body_length body) ≤ length all = omega (arith, length-append sent more, is) in
    need_of-synced all synced
    ∙ synced_need-read all (Some (frame.unit.nac, duid)) (omega (arith, length-append sent more)) read
    ∙ identified_need-some (frame.unit.nac, duid) all
    ∙ kind_need-near frame.unit.nac body (length frame.statuses) sent more sendable.body near.body blocks (symbols-sound frame sound)
    ∙ length_need-there (sent_length (body_length body)) (length all) enough
    ∙ ap Length (sym is)

-- and decode to the frame
pub reading_from-near : (frame : Frame) (sent : List Bool) → IsSoundFrame frame → IsSendableUnit frame.unit
    → IsWithinRadius frame sent → reading_from (Some (frame.unit.nac, body_duid frame.unit.body)) sent ≡ Ok (received_frame frame sent)
unfolding unit_image_of
reading_from-near frame sent sound sendable near =
    let blocks = length frame.statuses in
    let long : length sent ≡ 72 * blocks = near.front.long ∙ length-image_of-blocks frame sound sendable in
    let bare = length-bare_of blocks sent long ∙ sym (symbols-image frame sound sendable) in
    reading_from-some (frame.unit.nac, body_duid frame.unit.body) sent
    ∙ ap (frame_from frame.unit.nac (statuses_of sent)) (body_reading_of-near frame.unit.nac frame.unit.body (bare_of sent) sendable.body bare near.body)

pub unit_reading_of-near : (frame : Frame) (sent : List Bool) → IsSoundFrame frame → IsSendableUnit frame.unit → IsWithinRadius frame sent → unit_reading_of sent ≡ Ok (received_frame frame sent)
unit_reading_of-near frame sent sound sendable near =
    unit_reading_of-read sent (Some (frame.unit.nac, body_duid frame.unit.body)) (identifier_of-within frame sound sendable sent near)
    ∙ reading_from-near frame sent sound sendable near

pub unit_item_of-near : (place : ℕ) (frame : Frame) (sent : List Bool) → IsSoundFrame frame → IsSendableUnit frame.unit → IsWithinRadius frame sent
    → unit_item_of place sent ≡ Whole place (received_frame frame sent) (fixes_of (received_frame frame sent) sent)
unit_item_of-near place frame sent sound sendable near =
    unit_item_of-some place sent (frame.unit.nac, body_duid frame.unit.body)
    (Ok (received_frame frame sent)) (identifier_of-within frame sound sendable sent near) (reading_from-near frame sent sound sendable near)

-- an undamaged image
none_wrong : (bits : List Bool) (most : ℕ) → distance_of bits bits ≤ most
none_wrong bits most = omega (arith, distance_of-same bits)

IsBodyWithin-same : (nac : ℕ) (body : Body) → IsSendableBody body → IsBodyWithin body (body_image_of nac body) (body_image_of nac body)
unfolding IsBodyWithin IsSendableBody
IsBodyWithin-same nac (Voice voice) sendable = within_itself nac voice (voice_image_of nac voice) (IsVoiceImage-same nac voice sendable)
IsBodyWithin-same nac (Packet packet) sendable = let image = packet_image_of nac packet in
    record { long = refl; header = none_wrong (header_bits image) 2; blocks = λ j inside. none_wrong (block_bits image j) (block_radius packet) }

pub IsWithinRadius-image_of : (frame : Frame) → IsSoundFrame frame → IsSendableUnit frame.unit → IsWithinRadius frame (image_of frame)
unfolding unit_image_of
IsWithinRadius-image_of frame sound sendable = record {
  front = record { long = refl; sync = none_wrong (take 48 (image_of frame)) sync_slack; identifier = none_wrong (take 63 (identifier_bits (image_of frame))) 11 };
  body = subst (IsBodyWithin frame.unit.body (unit_image_of frame.unit)) (sym (bare_of-image_of frame sound sendable)) (IsBodyWithin-same frame.unit.nac frame.unit.body sendable.body);
}

received_body-same : (nac : ℕ) (body : Body) → IsSendableBody body → received_body body (body_image_of nac body) ≡ body
unfolding IsSendableBody
received_body-same nac (Voice voice) sendable = ap Voice (received_itself nac voice (voice_image_of nac voice) sendable (IsVoiceImage-same nac voice sendable))
received_body-same nac (Packet packet) sendable = refl

pub received-image_of : (frame : Frame) → IsSoundFrame frame → IsSendableUnit frame.unit → received_frame frame (image_of frame) ≡ frame
unfolding unit_image_of
received-image_of frame sound sendable =
    ap₂ (λ (body : Body) (statuses : List Status). let unit : UnitParts = record { nac = frame.unit.nac; body = body } in let same : Frame = record { unit = unit; statuses = statuses } in same)
    (ap (received_body frame.unit.body) (bare_of-image_of frame sound sendable) ∙ received_body-same frame.unit.nac frame.unit.body sendable.body)
    (statuses_of-image_of frame sound sendable)

pub unit_reading_of-image_of : (frame : Frame) → IsSoundFrame frame → IsSendableUnit frame.unit → unit_reading_of (image_of frame) ≡ Ok frame
unit_reading_of-image_of frame sound sendable =
    unit_reading_of-near frame (image_of frame) sound sendable (IsWithinRadius-image_of frame sound sendable) ∙ ap Ok (received-image_of frame sound sendable)
