use Rattle.std.proofs.Common.{arith}
use Rattle.p25_trellis.proofs.laws.half_rate_near.Goals as goal

pub returns : goal.returns
returns c = λ octets received long small all near. (c.nearest_laws.ensures.near octets received long small all (omega (arith, near))).0
