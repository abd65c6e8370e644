use Rattle.std.proofs.Common.{arith}
use Rattle.p25_vectors.specs.Samples.{state_before}
use Rattle.p25_vectors.proofs.sampler.Sampler.new.Goals as goal

pub invariant_of-result : goal.invariant_of-result
unfolding state_before
invariant_of-result c = (omega arith, c.new.ensures)
