use Rattle.std.proofs.Common.{length, ap, sym, ◌∙◌}
use Rattle.p25_soft.proofs.HardBitsLaws.{length-hard_bits}
use Rattle.p25_soft.proofs.HeardLaws.{broken_told, softened-packet, softened_count-packet, softened-unpacked, softened_count-unpacked, softened-other, softened_count-other}
use Rattle.p25_soft.proofs.softening.soften.Goals as goal

pub soften_packet-requires-clause-long : goal.soften_packet-requires-clause-long
soften_packet-requires-clause-long c =
    broken_told c.args.item.now c.args.raw.now c.in-Broken.place c.in-Broken.length c.in-Broken.nac c.in-Broken.duid c.in-Broken.fields c.requires.read c.in-Broken.is c.if-duid-eq-PDU.true

pub soften_packet-requires-clause-levels : goal.soften_packet-requires-clause-levels
soften_packet-requires-clause-levels c = ap length c.requires.hard ∙ length-hard_bits c.args.levels.now

pub returns-then-duid-eq-PDU-clause-bits : goal.returns-then-duid-eq-PDU-clause-bits
returns-then-duid-eq-PDU-clause-bits c =
    c.soften_packet.ensures.bits
    ∙ sym (softened-packet c.args.item.now c.args.levels.now c.args.raw.now
    c.in-Broken.place c.in-Broken.length c.in-Broken.nac c.in-Broken.duid c.in-Broken.fields c.in-Broken.is c.if-duid-eq-PDU.true)

pub returns-then-duid-eq-PDU-clause-count : goal.returns-then-duid-eq-PDU-clause-count
returns-then-duid-eq-PDU-clause-count c =
    c.soften_packet.ensures.count
    ∙ sym (softened_count-packet c.args.item.now c.args.raw.now c.in-Broken.place c.in-Broken.length c.in-Broken.nac c.in-Broken.duid c.in-Broken.fields c.in-Broken.is c.if-duid-eq-PDU.true)

pub returns-then-duid-eq-PDU-clause-kept : goal.returns-then-duid-eq-PDU-clause-kept
returns-then-duid-eq-PDU-clause-kept c = c.soften_packet.ensures.kept

pub returns-else-duid-eq-PDU-clause-bits : goal.returns-else-duid-eq-PDU-clause-bits
returns-else-duid-eq-PDU-clause-bits c =
    sym (softened-unpacked c.args.item.now c.args.levels.now c.args.raw.now
    c.in-Broken.place c.in-Broken.length c.in-Broken.nac c.in-Broken.duid c.in-Broken.fields c.in-Broken.is c.if-duid-eq-PDU.false)

pub returns-else-duid-eq-PDU-clause-count : goal.returns-else-duid-eq-PDU-clause-count
returns-else-duid-eq-PDU-clause-count c =
    sym (softened_count-unpacked c.args.item.now c.args.raw.now c.in-Broken.place c.in-Broken.length c.in-Broken.nac c.in-Broken.duid c.in-Broken.fields c.in-Broken.is c.if-duid-eq-PDU.false)

pub returns-in_default-clause-bits : goal.returns-in_default-clause-bits
returns-in_default-clause-bits c = sym (softened-other c.args.item.now c.args.levels.now c.args.raw.now c.in_default.not-Broken)

pub returns-in_default-clause-count : goal.returns-in_default-clause-count
returns-in_default-clause-count c = sym (softened_count-other c.args.item.now c.args.raw.now c.in_default.not-Broken)
