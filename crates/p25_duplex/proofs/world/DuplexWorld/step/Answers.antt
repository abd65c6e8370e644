use Rattle.std.proofs.Common.{rules}
use Rattle.p25_duplex.proofs.DuplexHistoryLaws.{history-step}
use Rattle.p25_duplex.proofs.world.DuplexWorld.step.Goals as goal

pub invariant_of-self-2 : goal.invariant_of-self-2
invariant_of-self-2 c = history-step _ _ _ c.step_ready.result c.self.invariant c.is_event.ensures (search rules)
