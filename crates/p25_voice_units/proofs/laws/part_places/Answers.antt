use Rattle.std.proofs.Common.{refl}
use Rattle.p25_coded_fields.specs.Layouts.{places_from}
use Rattle.p25_voice_units.specs.{FieldLayouts.{word_places}, Readings.{frame_places, low_places}}
use Rattle.p25_voice_units.proofs.laws.part_places.Goals as goal

pub returns : goal.returns
unfolding word_places places_from frame_places low_places
returns c = record { header = refl; link = refl; tdulc = refl; low = refl; frames = refl }
