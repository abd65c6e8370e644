use Rattle.std.proofs.Common.{rules}
use Rattle.p25_c.proofs.BuildingSteps.{under-refused, under-sent}
use Rattle.p25_c.proofs.repeats.p25_bridge_at.Goals as goal

pub returns-in-Ok : goal.returns-in-Ok
returns-in-Ok c = under-sent _ _ _ _ _ _ c.bridge_at.result (search rules) c.in-Ok.ensures.symbol c.bridge_at.ensures

pub returns-in-Err : goal.returns-in-Err
returns-in-Err c = under-refused _ _ _ _ _ c.in-Err.ensures.answer
