use Rattle.p25_gf64.specs.Gf64.{gf64}
use Rattle.p25_algebra.proofs.ForneyLaws.{forney}
use Rattle.p25_algebra.proofs.laws.forney.Goals as goal

pub returns : goal.returns
returns c = forney gf64
