use Rattle.p25_packet_blocks.proofs.{RadiusLaws.{packet_within}, SentLaws.{sent_within, sent_again}}
use Rattle.p25_packet_blocks.proofs.laws.packet_radius.Goals as goal

pub returns-clause-plain : goal.returns-clause-plain
returns-clause-plain c = λ nac packet received sendable within. packet_within c.half_rate_near.ensures c.three_quarter_rate_near.ensures nac packet received sendable within

pub returns-clause-sent : goal.returns-clause-sent
returns-clause-sent c = λ nac packet statuses received sending within. sent_within c.half_rate_near.ensures c.three_quarter_rate_near.ensures nac packet statuses sending received within

pub returns-clause-undamaged : goal.returns-clause-undamaged
returns-clause-undamaged c = λ nac packet statuses sending. sent_again c.half_rate_near.ensures c.three_quarter_rate_near.ensures nac packet statuses sending
