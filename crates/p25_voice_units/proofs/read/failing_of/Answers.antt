use Rattle.std.proofs.Common.{List, ◌++◌, ap, ◌∙◌}
use Rattle.p25_status.specs.{declared.fields.Field.{Field}, declared.fields.Field.TheVariants.{LowSpeed1, LowSpeed2}}
use Rattle.p25_voice_units.specs.Readings.{missing, failing}
use Rattle.p25_voice_units.proofs.read.failing_of.Goals as goal

pub returns : goal.returns
unfolding failing
returns c =
    let behind : List Field → List Field → List Field = λ more fields. fields ++ more in
    c.note-3.ensures.list
    ∙ ap (behind (missing LowSpeed2 c.args.second))
    (c.note-2.ensures.list ∙ ap (behind (missing LowSpeed1 c.args.first)) (c.note.ensures.list ∙ ap (behind (missing c.args.field c.args.word)) c.new-fields.ensures))
