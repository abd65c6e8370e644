use Rattle.std.proofs.Common.{arith}
use Rattle.p25_gf64.specs.ProductLaws.{times_x-lt}
use Rattle.p25_gf64.proofs.ProductSteps.{times_x-low, times_x-high}
use Rattle.p25_gf64.proofs.products.times_x.Goals as goal

pub returns-then-a-lt32-clause-product : goal.returns-then-a-lt32-clause-product
returns-then-a-lt32-clause-product c = times_x-low c.args.a c.if-a-lt32.true

pub returns-else-a-lt32 : goal.returns-else-a-lt32
returns-else-a-lt32 c = record { product = times_x-high c.args.a c.if-a-lt32.false; below = omega (arith, times_x-high c.args.a c.if-a-lt32.false, times_x-lt c.args.a c.requires) }
