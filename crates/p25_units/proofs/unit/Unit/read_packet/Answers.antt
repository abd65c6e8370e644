use Rattle.std.proofs.Common.{refl}
use Rattle.p25_units.proofs.OutcomeLaws.{packet_body-is, packet_long, packet_wrong-is, packet_wrong-le}
use Rattle.p25_units.proofs.unit.Unit.read_packet.Goals as goal

pub read-requires-clause-there : goal.read-requires-clause-there
read-requires-clause-there c = packet_long c.args.bare.now c.args.read c.requires.there c.requires.head

pub read-outcome-requires-clause-there : goal.read-outcome-requires-clause-there
read-outcome-requires-clause-there c = packet_long c.args.bare.now c.args.read c.requires.there c.requires.head

pub returns-in-Packet-clause-body : goal.returns-in-Packet-clause-body
returns-in-Packet-clause-body c = packet_body-is c.args.read c.args.bare.now c.read.new.self c.read.result c.requires.head c.read.ensures.outcome c.read.ensures.packet

pub returns-in-Packet-clause-wrong : goal.returns-in-Packet-clause-wrong
returns-in-Packet-clause-wrong c = packet_wrong-is c.args.bare.now c.read.new.self _ c.read.result refl c.read.ensures.wrong

pub returns-in-Packet-clause-few : goal.returns-in-Packet-clause-few
returns-in-Packet-clause-few c = packet_wrong-le c.args.bare.now c.read.new.self c.read.result c.read.ensures.wrong

pub returns-in-Voice-clause-body : goal.returns-in-Voice-clause-body
returns-in-Voice-clause-body c =
    packet_body-is c.args.read c.args.bare.now c.read-outcome.new.self c.read-outcome.result c.requires.head c.read-outcome.ensures.outcome c.read-outcome.ensures.packet

pub returns-in-Voice-clause-wrong : goal.returns-in-Voice-clause-wrong
returns-in-Voice-clause-wrong c = packet_wrong-is c.args.bare.now c.read-outcome.new.self _ c.read-outcome.result refl c.read-outcome.ensures.wrong

pub returns-in-Voice-clause-few : goal.returns-in-Voice-clause-few
returns-in-Voice-clause-few c = packet_wrong-le c.args.bare.now c.read-outcome.new.self c.read-outcome.result c.read-outcome.ensures.wrong
