use Rattle.p25_packet_blocks.specs.Whole.{IsWholePacket}
use Rattle.p25_c.proofs.packet_building.plain_held.Goals as goal

pub returns-clause-whole : goal.returns-clause-whole
unfolding IsWholePacket
returns-clause-whole c = tt
