use Rattle.std.proofs.Common.{Err, length}
use Rattle.p25_voice_units.proofs.FailuresLaws.{some_fields}
use Rattle.p25_voice_units.proofs.read.read_voice.Goals as goal

pub returns-in-Read-clause-reading : goal.returns-in-Read-clause-reading
returns-in-Read-clause-reading c = rw c.in-Read.is at c.read_voice_in.ensures.value

pub returns-in-Failing-clause-reading : goal.returns-in-Failing-clause-reading
returns-in-Failing-clause-reading c = rw c.in-Failing.is at c.read_voice_in.ensures.value

pub returns-in-Failing-clause-some : goal.returns-in-Failing-clause-some
returns-in-Failing-clause-some c =
    some_fields c.args.duid (length c.args.bare.now) c.args.bare.now (Err c.in-Failing.fields) c.requires (returns-in-Failing-clause-reading c)
