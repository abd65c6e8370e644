use Rattle.std.proofs.Common.{◌<◌, ◌≤◌, length, sym, arith}
use Rattle.p25_soft.specs.Softened.{is_packet_crc, names_all}
use Rattle.p25_soft.proofs.NamedSteps.{found, none_more, none_at_all, is_packet_crc-is, is_packet_crc-other}
use Rattle.p25_soft.proofs.softening.fails_whole.Goals as goal

pub returns-in-PacketCrc : goal.returns-in-PacketCrc
unfolding names_all
returns-in-PacketCrc c =
    let inside : c.loop-i.i < length c.args.fields.now = omega arith in
    sym (found is_packet_crc c.args.fields.now c.loop-i.i c.get.result inside c.get.ensures (is_packet_crc-is c.get.result c.in-PacketCrc.is))

pub loop-i-preserved : goal.loop-i-preserved
loop-i-preserved c =
    let inside : c.loop-i.i < length c.args.fields.now = omega arith in
    none_more is_packet_crc c.args.fields.now c.loop-i.i c.get.result inside c.get.ensures (is_packet_crc-other c.get.result c.in_default.not-PacketCrc) c.loop-i.invariant

pub returns : goal.returns
unfolding names_all
returns c =
    let all : length c.args.fields.now ≤ c.loop-i.i = omega arith in
    sym (none_at_all is_packet_crc c.args.fields.now c.loop-i.i all c.loop-i.invariant)
