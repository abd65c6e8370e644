use Rattle.std.proofs.Common.{subst}
use Rattle.p25_delivery.specs.Halves.{Roomy}
use Rattle.p25_duplex.specs.{DuplexSteps.{DuplexState}, DuplexRuns.{HasDuplexHistory}}
use Rattle.p25_duplex.proofs.DuplexHistoryLaws.{history-facts, history-orderly, history-whole}
use Rattle.p25_duplex.proofs.world.DuplexWorld.facts.Goals as goal

pub returns-clause-kept : goal.returns-clause-kept
returns-clause-kept c side = history-facts _ side (rw c.self.view_is at c.self.invariant)

pub returns-clause-orderly : goal.returns-clause-orderly
returns-clause-orderly c side = history-orderly _ side (rw c.self.view_is at c.self.invariant)

pub returns-clause-whole : goal.returns-clause-whole
returns-clause-whole c side = history-whole _ side (rw c.self.view_is at c.self.invariant)
