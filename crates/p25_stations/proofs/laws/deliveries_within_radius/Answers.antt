use Rattle.p25_stations.proofs.AtOnceLaws.{run-delivers_within, run-opens_within}
use Rattle.p25_stations.proofs.laws.deliveries_within_radius.Goals as goal

pub returns : goal.returns
returns c = record { delivered = run-delivers_within c.packet_radius.ensures.sent; opened = run-opens_within c.packet_radius.ensures.sent }
