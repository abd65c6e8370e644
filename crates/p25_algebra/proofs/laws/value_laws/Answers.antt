use Rattle.p25_gf64.specs.Gf64.{gf64}
use Rattle.p25_algebra.proofs.ProductValueLaws.{value-add, value-product}
use Rattle.p25_algebra.proofs.laws.value_laws.Goals as goal

pub returns : goal.returns
returns c = record { sums = value-add gf64; products = value-product gf64 }
