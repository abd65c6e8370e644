use Rattle.std.proofs.Common.{Bool, ◌||◌, ap}
use Rattle.p25_fragments.proofs.LongHistoryLaws.{history-next}
use Rattle.p25_fragments.proofs.long_world.LongWorld.step_ready.Goals as goal

pub invariant_of-self : goal.invariant_of-self
invariant_of-self c =
    history-next _ _ _ _ _ _ c.self.invariant c.event_fits.ensures c.step_ready.ensures.step
    (cc)
