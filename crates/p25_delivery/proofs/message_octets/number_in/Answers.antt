use Rattle.std.proofs.Common.{sym, ◌∙◌}
use Rattle.p25_packet_blocks.proofs.ReadingSteps.{number_of_four}
use Rattle.p25_delivery.proofs.message_octets.number_in.Goals as goal

pub returns : goal.returns
returns c = cc (number_of_four c.args.octets.now 0 c.requires)
