use Rattle.std.proofs.Common.{not, ap, ◌∙◌}
use Rattle.p25_voice_units.proofs.ReadLaws.{noted, not_noted}
use Rattle.p25_voice_units.proofs.read.note.Goals as goal

pub returns-then-is_none-clause-list : goal.returns-then-is_none-clause-list
returns-then-is_none-clause-list c =
    noted c.args.fields.now c.push.new.self c.args.field c.args.part (c.is_none.ensures ∙ ap not c.if-is_none.true) c.push.ensures.list

pub returns-else-is_none-clause-list : goal.returns-else-is_none-clause-list
returns-else-is_none-clause-list c = not_noted c.args.fields.now c.args.field c.args.part (c.is_none.ensures ∙ ap not c.if-is_none.false)
