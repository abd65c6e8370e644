use Rattle.std.proofs.Common.{rules}
use Rattle.p25_vectors.specs.Draws.{draw, state_after, state_behind}
use Rattle.p25_vectors.proofs.draws.Draws.below.Goals as goal

pub returns-clause-value : goal.returns-clause-value
unfolding draw state_after state_behind
returns-clause-value c = search rules

pub returns-clause-state : goal.returns-clause-state
unfolding state_after state_behind
returns-clause-state c = search rules
