use Rattle.p25_voice_units.proofs.{LengthsLaws.{voice_lengths}, ImagesLaws.{length-voice_image_of, IsVoiceImage-iff}}
use Rattle.p25_voice_units.proofs.laws.image_laws.Goals as goal

pub returns : goal.returns
returns c = record { form = IsVoiceImage-iff; fills = length-voice_image_of; lengths = voice_lengths }
