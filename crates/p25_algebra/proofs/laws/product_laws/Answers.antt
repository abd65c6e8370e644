use Rattle.p25_gf64.specs.Gf64.{gf64}
use Rattle.p25_algebra.proofs.ProductLaws.{product_comm, product_assoc, product-add, product_degree}
use Rattle.p25_algebra.proofs.laws.product_laws.Goals as goal

pub returns : goal.returns
returns c = record {
  commutes = product_comm gf64;
  associates = product_assoc gf64;
  distributes = product-add gf64;
  degrees = product_degree gf64;
}
