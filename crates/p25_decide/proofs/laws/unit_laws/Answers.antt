use Rattle.p25_decide.proofs.UnitKeptLaws.{decided_bare-kept}
use Rattle.p25_decide.proofs.laws.unit_laws.Goals as goal

pub returns-clause-length : goal.returns-clause-length
returns-clause-length c = λ duid levels bare long. (decided_bare-kept duid levels bare long).0

pub returns-clause-front : goal.returns-clause-front
returns-clause-front c = λ duid levels bare long. (decided_bare-kept duid levels bare long).1
