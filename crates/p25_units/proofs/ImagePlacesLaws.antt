-- Bits in the form by positions are the image: those of a data unit by the laws of its type, and with status symbols because there is one way to
-- insert them.
use Rattle.std.proofs.Common.{◌≡◌, ℕ, ◌*◌, ◌↔◌, Bool, List, length, refl, ap, sym, subst, ◌∙◌}
use Rattle.p25_status.specs.Woven.{woven}
use Rattle.p25_status.proofs.PlacesSteps.{woven-places, StandsByPlaces-unique}
use Rattle.p25_voice_units.proofs.ImagesLaws.{IsVoiceImage-iff}
use Rattle.p25_packet_blocks.proofs.PlacesLaws.{IsPacketImage-image, IsPacketImage-only}
use Rattle.p25_units.specs.{ImagePlaces.{IsBodyImage, IsImage}, Units.{body_image_of, unit_image_of, image_of, IsSoundFrame, IsSendableBody, IsSendableUnit}, declared.unit.Body.{Body}}
use Rattle.p25_units.specs.{declared.unit.Body.TheVariants.{Voice, Packet}, declared.frame.Frame.{Frame}}
use Rattle.p25_units.proofs.UnitsLaws.{symbols-image}

-- bits are those of a body exactly if they are by positions
body-only : (nac : ℕ) (body : Body) → IsSendableBody body → (bare : List Bool) → IsBodyImage nac body bare → bare ≡ body_image_of nac body
unfolding IsSendableBody IsBodyImage
body-only nac (Voice voice) sendable bare is = (IsVoiceImage-iff nac voice bare sendable).0 is
body-only nac (Packet packet) sendable bare is = IsPacketImage-only nac packet sendable bare is

body-image : (nac : ℕ) (body : Body) → IsSendableBody body → IsBodyImage nac body (body_image_of nac body)
unfolding IsSendableBody IsBodyImage
body-image nac (Voice voice) sendable = (IsVoiceImage-iff nac voice (body_image_of nac (Voice voice)) sendable).1 refl
body-image nac (Packet packet) sendable = IsPacketImage-image nac packet sendable

module _ (frame : Frame) (sound : IsSoundFrame frame) (sendable : IsSendableUnit frame.unit) where
  image-only : (sent : List Bool) → IsImage frame sent → sent ≡ image_of frame
  unfolding image_of unit_image_of
  image-only sent is =
      let bare : is.bare ≡ unit_image_of frame.unit = body-only frame.unit.nac frame.unit.body sendable.body is.bare is.laid_out in
      let long : length is.bare ≡ 70 * length frame.statuses = ap length bare ∙ symbols-image frame sound sendable in
      StandsByPlaces-unique is.bare frame.statuses sent (woven is.bare frame.statuses) long is.woven (woven-places is.bare frame.statuses long)
      ∙ ap (λ (bits : List Bool). woven bits frame.statuses) bare

  image-is : IsImage frame (image_of frame)
  unfolding image_of unit_image_of
  image-is = record {
    bare = unit_image_of frame.unit;
    laid_out = body-image frame.unit.nac frame.unit.body sendable.body;
    woven = woven-places (unit_image_of frame.unit) frame.statuses (symbols-image frame sound sendable);
  }

pub IsImage-iff : (frame : Frame) (sent : List Bool) → IsSoundFrame frame → IsSendableUnit frame.unit → IsImage frame sent ↔ (sent ≡ image_of frame)
IsImage-iff frame sent sound sendable = (image-only frame sound sendable sent, λ same. subst (IsImage frame) (sym same) (image-is frame sound sendable))
