use Rattle.p25_gf64.specs.Gf64.{gf64}
use Rattle.p25_algebra.proofs.VanishingLaws.{vanishing}
use Rattle.p25_algebra.proofs.laws.vanishing_sums.Goals as goal

pub returns : goal.returns
returns c = vanishing gf64
