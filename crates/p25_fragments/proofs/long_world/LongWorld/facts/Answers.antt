use Rattle.std.proofs.Common.{subst}
use Rattle.p25_fragments.specs.{LongState.{LongView}, LongRuns.{HasLongHistory}}
use Rattle.p25_fragments.proofs.LongHistoryLaws.{history-orderly, history-whole}
use Rattle.p25_fragments.proofs.long_world.LongWorld.facts.Goals as goal

pub returns-clause-orderly : goal.returns-clause-orderly
returns-clause-orderly c = history-orderly _ _ (subst (λ (w : LongView). HasLongHistory w.state w.beside) c.self.view_is c.self.invariant)

pub returns-clause-whole : goal.returns-clause-whole
returns-clause-whole c = history-whole _ _ (subst (λ (w : LongView). HasLongHistory w.state w.beside) c.self.view_is c.self.invariant)
