use Rattle.std.proofs.Common.{ap, ◌∙◌}
use Rattle.p25_voice_units.specs.{Images.{voice_image_of}, Readings.{voice_reading_of}}
use Rattle.p25_voice_units.proofs.{ReadingLaws.{unit_read}, RadiusLaws.{voice_within, within_from_words, within_itself, IsVoiceImage-same, voice_reading_of-image, voice_whole}}
use Rattle.p25_voice_units.proofs.laws.radius_laws.Goals as goal

pub returns : goal.returns
returns c = record {
  kind = λ duid bare unit read. (unit_read duid bare unit read).kind;
  sendable = λ duid bare unit read. (unit_read duid bare unit read).sendable;
  within = λ nac unit received keeps long near. voice_within nac unit (voice_image_of nac unit) received keeps (IsVoiceImage-same nac unit keeps) long near;
  words = λ nac unit received keeps long few. within_from_words nac unit (voice_image_of nac unit) received (IsVoiceImage-same nac unit keeps) long few;
  undamaged = λ nac unit keeps. within_itself nac unit (voice_image_of nac unit) (IsVoiceImage-same nac unit keeps);
  again = voice_reading_of-image;
  whole = λ nac duid received unit read.
      let of = unit_read duid received unit read in
      voice_whole nac unit (voice_image_of nac unit) received (IsVoiceImage-same nac unit of.sendable) (ap (λ d. voice_reading_of d received) of.kind ∙ read);
}
