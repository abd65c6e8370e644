use Rattle.p25_gf64.specs.Gf64.{gf64}
use Rattle.p25_algebra.proofs.LocatorLaws.{locator_vanishes}
use Rattle.p25_algebra.proofs.laws.locator_vanishes.Goals as goal

pub returns : goal.returns
returns c = locator_vanishes gf64
