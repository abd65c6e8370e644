use Rattle.p25_gf64.specs.Gf64.{gf64}
use Rattle.p25_algebra.proofs.QuotientLaws.{slope-kept, slope-new}
use Rattle.p25_algebra.proofs.laws.slope_laws.Goals as goal

pub returns : goal.returns
returns c = record { kept = slope-kept gf64; made = slope-new gf64 }
