use Rattle.std.proofs.Common.{Some, option_map, refl, ap, ◌∙◌}
use Rattle.p25_coded_fields.specs.{Layouts.{field_reading_of, places_from}}
use Rattle.p25_link.specs.Words.{link_of_symbols, link_symbols}
use Rattle.p25_reed_solomon.specs.Encoding.{rs_word}
use Rattle.p25_status.specs.Outcomes.{read_or}
use Rattle.p25_golay.specs.Golay24.{golay24_word}
use Rattle.p25_voice_units.specs.{FieldLayouts.{word_places, tdulc_layout}, Fixes.{voice_looked}, Images.{voice_body, voice_image_of}, Layouts.{tdulc_rows}}
use Rattle.p25_voice_units.specs.Readings.{link_in, tdulc_from}
use Rattle.p25_voice_units.proofs.{CountedLaws.{coded_fixes}, FormLaws.{words_in_unit}, ImagesLaws.{golay24_carried, tdulc_suits}, ReadLaws.{part_counted}}
use Rattle.p25_voice_units.proofs.read.read_tdulc.Goals as goal

pub returns-in-Some-clause-value : goal.returns-in-Some-clause-value
unfolding link_in tdulc_from word_places places_from
returns-in-Some-clause-value c =
    ap tdulc_from (part_counted link_of_symbols (Some c.in-Some.wrong)
    (field_reading_of tdulc_layout c.args.bare.now) c.read_symbols.new.symbols c.from_symbols.result c.in-Some.ensures.value c.from_symbols.ensures.value)

pub returns-in-Some-clause-wrong : goal.returns-in-Some-clause-wrong
unfolding word_places places_from voice_looked voice_image_of voice_body
returns-in-Some-clause-wrong c =
    let places = word_places 24 tdulc_rows in
    let symbols = rs_word 24 12 (link_symbols c.from_symbols.result) in
    coded_fixes _ golay24_word 24 2 places symbols c.args.bare.now c.in-Some.wrong refl (λ nac. words_in_unit (golay24_carried symbols) (tdulc_suits c.from_symbols.result) nac 15 _ refl)
    (rw (← c.from_symbols.ensures.back) at c.in-Some.ensures.wrong)

pub returns-in-None-clause-value : goal.returns-in-None-clause-value
unfolding link_in tdulc_from word_places places_from
returns-in-None-clause-value c = ap (λ outcome. read_or outcome c.args.unit.now) c.failing.ensures ∙ ap tdulc_from (ap (option_map link_of_symbols) c.in-None.ensures.value)
