use Rattle.p25_coded_fields.specs.Layouts.{places_from}
use Rattle.p25_voice_units.specs.{FieldLayouts.{word_places}, Layouts.{ldu_rows}, Readings.{low_places}}
use Rattle.p25_vectors.specs.Damage.{field_hits, word_hits}
use Rattle.p25_vectors.proofs.HitsLaws.{damage-both}
use Rattle.p25_vectors.proofs.damage.damage_link.Goals as goal

pub returns-clause-damage : goal.returns-clause-damage
unfolding word_places places_from low_places
returns-clause-damage c =
    let field = c.damage_field-field in
    let low = c.damage_words in
    damage-both (field_hits 10 1 c.args.most (word_places 10 ldu_rows)) (word_hits 16 2 0 (low_places ldu_rows)) c.args.draws.now field.new.draws low.new.draws field.result low.result
    c.args.bits.now field.new.bits low.new.bits field.ensures.damage low.ensures.damage
