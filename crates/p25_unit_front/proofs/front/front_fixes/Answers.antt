use Rattle.p25_unit_front.proofs.FrontSteps.{front_fixes-parts}
use Rattle.p25_unit_front.proofs.front.front_fixes.Goals as goal

pub returns-clause-value : goal.returns-clause-value
returns-clause-value c =
    let nid = c.args.nid.now in
    front_fixes-parts (nid.nac, nid.duid) c.args.bits.now c.args.at c.field.result c.identifier.result c.sync_distance.result c.nid_distance.result c.requires c.field.ensures.value
    c.identifier.ensures.value c.sync_distance.ensures.distance c.nid_distance.ensures.distance
