use Rattle.p25_gf64.specs.Gf64.{gf64}
use Rattle.p25_algebra.proofs.ProductLaws.{same_quotient, same_remainder}
use Rattle.p25_algebra.proofs.laws.unique_division.Goals as goal

pub returns : goal.returns
returns c = λ n d b q p r t degree short_q short_p short_r short_t same i.
    (same_quotient gf64 n b q p r t d degree short_q short_p short_r short_t same i, same_remainder gf64 n b q p r t d degree short_q short_p short_r short_t same i)
