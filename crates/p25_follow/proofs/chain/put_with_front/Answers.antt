use Rattle.std.proofs.Common.{◌∙◌}
use Rattle.p25_bits.specs.Bits.{bits_of}
use Rattle.p25_status.proofs.SyncLaws.{sync_bits-is}
use Rattle.p25_follow.proofs.FrontSteps.{front-fields}
use Rattle.p25_follow.proofs.chain.put_with_front.Goals as goal

pub returns-clause-list : goal.returns-clause-list
returns-clause-list c =
    let name = c.args.name.now in
    c.append-2.ensures.list
    ∙ front-fields name.nac name.duid c.args.at c.args.count c.nid_bits-identifier.result c.args.bits.now c.args.out.now (bits_of 48 0x5575_F5FF_77FF) c.put_field.new.self c.put_field-2.new.self
    c.append.new.self c.put_field-3.new.self c.requires.some sync_bits-is c.nid_bits-identifier.ensures.list c.put_field.ensures.list c.put_field-2.ensures.list c.append.ensures.list
    c.put_field-3.ensures.list
