use Rattle.std.proofs.Common.{rules}
use Rattle.p25_vectors.specs.Bodies.{kind_of, kinds}
use Rattle.p25_vectors.proofs.bodies.kind_at.Goals as goal

pub returns : goal.returns
unfolding kind_of kinds
returns c = search rules
