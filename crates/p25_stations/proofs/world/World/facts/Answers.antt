use Rattle.std.proofs.Common.{subst}
use Rattle.p25_delivery.specs.Halves.{Roomy}
use Rattle.p25_stations.specs.{WorldState.{WorldState}, Runs.{HasHistory}}
use Rattle.p25_stations.proofs.HistoryLaws.{history-facts, history-orderly, history-counted, history-whole}
use Rattle.p25_stations.proofs.world.World.facts.Goals as goal

pub returns-clause-kept : goal.returns-clause-kept
returns-clause-kept c = history-facts _ (rw c.self.view_is at c.self.invariant)

pub returns-clause-orderly : goal.returns-clause-orderly
returns-clause-orderly c = history-orderly _ (rw c.self.view_is at c.self.invariant)

pub returns-clause-counted : goal.returns-clause-counted
returns-clause-counted c = history-counted _ (rw c.self.view_is at c.self.invariant)

pub returns-clause-whole : goal.returns-clause-whole
returns-clause-whole c = history-whole _ (rw c.self.view_is at c.self.invariant)
