use Rattle.std.proofs.{Common.{◌≡◌, ◌/◌, ◌≤◌, length, take, Some, refl, sym, ap, ◌∙◌, arith}, lemmas.List.{length-take-le}}
use Rattle.p25_reed_solomon.specs.{Encoding.{rs_word}, RsReadings.{rs_erased_reading_of}}
use Rattle.p25_reed_solomon.proofs.EncodingLaws.{rs_word-only}
use Rattle.p25_coded_fields.specs.{Layouts.{field_layout}}
use Rattle.p25_coded_fields.proofs.CodesLaws.{field_found, field_beyond, outer_word_found}
use Rattle.p25_voice_units.proofs.read.read_symbols.Goals as goal

pub returns-in-Found-clause-value : goal.returns-in-Found-clause-value
returns-in-Found-clause-value g c =
    let b = g.I.BlockCode in
    let layout = field_layout c.args.places.now b.N (b.K / 6) b.reading_is (rs_erased_reading_of g.row.N g.row.K) g.row.K in
    ap Some c.copy_from_slice.ensures.after ∙ sym (field_found layout c.args.bare.now c.read_field.result c.read_field.new.word c.in-Found.fixes c.in-Found.is c.read_field.ensures.value)

pub returns-in-Found-clause-wrong : goal.returns-in-Found-clause-wrong
returns-in-Found-clause-wrong g c =
    let b = g.I.BlockCode in
    let n = g.row.N in
    let k = g.row.K in
    let places = c.args.places.now in
    let bare = c.args.bare.now in
    let word = c.read_field.new.word in
    let is_word = outer_word_found places b.N (b.K / 6) n k b.reading_is bare c.read_field.result word c.in-Found.fixes c.in-Found.is c.read_field.ensures.value in
    let fits : k ≤ length word = omega (arith, is_word.long, c.requires.outer.shorter) in
    let word_is : word ≡ rs_word n k _ = rs_word-only n k (take k word) word c.requires.outer
    (length-take-le k word fits) (record { word_of_set = is_word; begins = refl }) ∙ ap (rs_word n k) (sym c.copy_from_slice.ensures.after) in
    rw (← word_is) (c.read_field.ensures.fixes c.requires.some c.in-Found.fixes c.in-Found.is)

pub returns-in-Found-clause-most : goal.returns-in-Found-clause-most
returns-in-Found-clause-most g c = c.read_field.ensures.most c.requires.some c.in-Found.fixes c.in-Found.is

pub returns-in-Beyond-clause-value : goal.returns-in-Beyond-clause-value
returns-in-Beyond-clause-value g c =
    let b = g.I.BlockCode in
    let layout = field_layout c.args.places.now b.N (b.K / 6) b.reading_is (rs_erased_reading_of g.row.N g.row.K) g.row.K in
    sym (field_beyond layout c.args.bare.now c.read_field.result c.read_field.new.word c.in-Beyond.is c.read_field.ensures.value)
