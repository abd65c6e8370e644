use Rattle.p25_stations.proofs.HistoryLaws.{history-step}
use Rattle.p25_stations.proofs.world.World.step_ready.Goals as goal

pub invariant_of-self : goal.invariant_of-self
invariant_of-self c = history-step _ _ _ _ c.self.invariant c.is_event.ensures c.step_ready.ensures.step
