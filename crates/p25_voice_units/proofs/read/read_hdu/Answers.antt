use Rattle.std.proofs.Common.{Some, option_map, length, refl, ap, ◌∙◌}
use Rattle.p25_coded_fields.specs.{Layouts.{field_reading_of, places_from}}
use Rattle.p25_coded_fields.proofs.CodesLaws.{all_end}
use Rattle.p25_link.specs.Words.{header_of_symbols, header_symbols}
use Rattle.p25_reed_solomon.specs.Encoding.{rs_word}
use Rattle.p25_status.specs.Outcomes.{read_or}
use Rattle.p25_golay.specs.Golay18.{golay18_word}
use Rattle.p25_voice_units.specs.{FieldLayouts.{word_places, header_layout}, Fixes.{voice_looked}, Images.{voice_body, voice_image_of}, Layouts.{hdu_rows}}
use Rattle.p25_voice_units.specs.Readings.{header_in, header_from}
use Rattle.p25_voice_units.proofs.{CountedLaws.{coded_fixes}, FormLaws.{words_in_unit}, ImagesLaws.{golay18_carried, header_suits}, ReadLaws.{part_counted}}
use Rattle.p25_voice_units.proofs.read.read_hdu.Goals as goal

pub read_symbols-requires-clause-there : goal.read_symbols-requires-clause-there
unfolding word_places places_from
read_symbols-requires-clause-there c = all_end 18 770 (length c.args.bare.now) (word_places 18 hdu_rows) refl c.requires

pub returns-in-Some-clause-value : goal.returns-in-Some-clause-value
unfolding header_in header_from word_places places_from
returns-in-Some-clause-value c =
    ap header_from (part_counted header_of_symbols (Some c.in-Some.wrong) (field_reading_of header_layout c.args.bare.now)
    c.read_symbols.new.symbols c.from_symbols.result c.in-Some.ensures.value c.from_symbols.ensures.value)

pub returns-in-Some-clause-wrong : goal.returns-in-Some-clause-wrong
unfolding word_places places_from voice_looked voice_image_of voice_body
returns-in-Some-clause-wrong c =
    let places = word_places 18 hdu_rows in
    let symbols = rs_word 36 20 (header_symbols c.from_symbols.result) in
    coded_fixes _ golay18_word 18 1 places symbols c.args.bare.now c.in-Some.wrong refl (λ nac. words_in_unit (golay18_carried symbols) (header_suits c.from_symbols.result) nac 0 _ refl)
    (rw (← c.from_symbols.ensures.back) at c.in-Some.ensures.wrong)

pub returns-in-None-clause-value : goal.returns-in-None-clause-value
unfolding header_in header_from word_places places_from
returns-in-None-clause-value c = ap (λ outcome. read_or outcome c.args.unit.now) c.failing.ensures ∙ ap header_from (ap (option_map header_of_symbols) c.in-None.ensures.value)
