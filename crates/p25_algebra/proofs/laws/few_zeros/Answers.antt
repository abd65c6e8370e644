use Rattle.p25_gf64.specs.Gf64.{gf64}
use Rattle.p25_algebra.proofs.ValueLaws.{few_zeros}
use Rattle.p25_algebra.proofs.laws.few_zeros.Goals as goal

pub returns : goal.returns
returns c = few_zeros gf64
