use Rattle.std.proofs.Common.{rules}
use Rattle.p25_c.proofs.BuildingSteps.{bridged-first, under-as}
use Rattle.p25_c.proofs.building.p25_bridge.Goals as goal

pub returns : goal.returns
returns c = under-as _ _ _ _ _ _ c.p25_bridge_at.result (search rules) (bridged-first c.args.nac c.args.octets.now) c.p25_bridge_at.ensures
