use Rattle.p25_c.proofs.CallsLaws.{calls-all, calls-first, sets-items}
use Rattle.p25_c.proofs.laws.series_laws.Goals as goal

pub returns : goal.returns
returns c = record { first = calls-first; all = calls-all; numbers = sets-items }
