use Rattle.std.proofs.Common.{option_map, Err, ap, ap₂, sym, ◌∙◌, arith}
use Rattle.p25_coded_fields.specs.Layouts.{places_from}
use Rattle.p25_voice_units.specs.{FieldLayouts.{word_places}, Readings.{ldu_from}}
use Rattle.p25_voice_units.proofs.{KindsLaws.{ldu_whole, ldu_fails}, ReadLaws.{some_at}}
use Rattle.p25_voice_units.proofs.read.read_ldu.Goals.{in_default-via-in-Some+in-Some+in_default, in_default-via-in-Some+in_default, in_default-via-in_default}
use Rattle.p25_voice_units.proofs.read.read_ldu.Goals as goal

pub returns-in-Some-Some-Some-clause-value : goal.returns-in-Some-Some-Some-clause-value
unfolding word_places places_from
returns-in-Some-Some-Some-clause-value g c = λ unit.
    let w = c.in-Some-Some-Some in
    let symbols = c.read_symbols-word.new.symbols in
    let first = c.read_low-low1.new.octet in
    let second = c.read_low-low2.new.octet in
    sym (ldu_whole c.args.field unit _ _ _ symbols first second
    (sym c.read_symbols-word.ensures.value ∙ ap (option_map (λ n. symbols)) w.is-0)
    (sym c.read_low-low1.ensures.value ∙ ap (option_map (λ n. first)) w.is-1)
    (sym c.read_low-low2.ensures.value ∙ ap (option_map (λ n. second)) w.is-2))

pub returns-in-Some-Some-Some-clause-wrong : goal.returns-in-Some-Some-Some-clause-wrong
unfolding word_places places_from
returns-in-Some-Some-Some-clause-wrong g c =
    let w = c.in-Some-Some-Some in
    let field = some_at _ c.read_symbols-word.result w.word c.read_symbols-word.ensures.wrong w.is-0 in
    let low_first = some_at _ c.read_low-low1.result w.low1 c.read_low-low1.ensures.wrong w.is-1 in
    let low_second = some_at _ c.read_low-low2.result w.low2 c.read_low-low2.ensures.wrong w.is-2 in
    omega (arith, field, low_first, low_second)

pub returns-in_default-clause-value : goal.returns-in_default-clause-value
unfolding word_places places_from
returns-in_default-clause-value g c = λ unit.
    let symbols = c.read_symbols-word.new.symbols in
    let first = c.read_low-low1.new.octet in
    let second = c.read_low-low2.new.octet in
    ap Err c.failing_of.ensures
    ∙ ldu_fails c.args.field unit c.read_symbols-word.result c.read_low-low1.result c.read_low-low2.result symbols first second
    (λ word low1 low2 is_word is_first is_second. elim c.in_default.branch [
      | in_default-via-in-Some+in-Some+in_default w ↦ let none = w.in_default.is-2 in absurd (cc)
      | in_default-via-in-Some+in_default w ↦ let none = w.in_default.is-1 in absurd (cc)
      | in_default-via-in_default w ↦ let none = w.in_default.is-0 in absurd (cc)
    ])
    ∙ ap (λ a. ldu_from c.args.field unit a (option_map (λ n. first) c.read_low-low1.result) (option_map (λ n. second) c.read_low-low2.result)) c.read_symbols-word.ensures.value
    ∙ ap₂ (ldu_from c.args.field unit _) c.read_low-low1.ensures.value c.read_low-low2.ensures.value
