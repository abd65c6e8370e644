use Rattle.std.proofs.Common.{sym, subst}
use Rattle.p25_units.specs.Units.{IsSendableBody, IsWholeBody}
use Rattle.p25_units.proofs.sending.body_image.Goals as goal

pub packet_image-requires-clause-whole : goal.packet_image-requires-clause-whole
unfolding IsWholeBody
packet_image-requires-clause-whole c = subst IsWholeBody c.in-Packet.is c.requires.whole

pub returns-in-Voice-clause-sendable : goal.returns-in-Voice-clause-sendable
unfolding IsSendableBody
returns-in-Voice-clause-sendable c = subst IsSendableBody (sym c.in-Voice.is) c.voice_image.ensures.sendable

pub returns-in-Packet-clause-sendable : goal.returns-in-Packet-clause-sendable
unfolding IsSendableBody
returns-in-Packet-clause-sendable c = subst IsSendableBody (sym c.in-Packet.is) c.packet_image.ensures.sendable
