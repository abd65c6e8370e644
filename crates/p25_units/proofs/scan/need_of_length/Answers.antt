use Rattle.std.proofs.Common.{sym}
use Rattle.p25_units.proofs.NeedsLaws.{length_need-more, length_need-there}
use Rattle.p25_units.proofs.scan.need_of_length.Goals as goal

pub returns-then-have-length : goal.returns-then-have-length
returns-then-have-length c = sym (length_need-more c.args.length c.args.have c.if-have-length.true)

pub returns-else-have-length : goal.returns-else-have-length
returns-else-have-length c = sym (length_need-there c.args.length c.args.have c.if-have-length.false)
