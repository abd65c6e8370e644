use Rattle.std.proofs.Common.{◌≡◌, ℕ, Bool, List, replicate, ap₂, ◌∙◌, ◌/◌, arith}
use Rattle.p25_status.specs.{declared.symbols.Status.{Status}, Status.{same_status}, Woven.{woven}}
use Rattle.p25_packet_blocks.specs.{Heads.{head_blocks}, Whole.{packet_head}, Lengths.{packet_parts}}
use Rattle.p25_stations.specs.Air.{station_status, transmission_of}
use Rattle.p25_packet_blocks.proofs.HeadLaws.{head_blocks-lt}
use Rattle.p25_stations.proofs.air.transmit.Goals as goal

pub filled-statuses-requires : goal.filled-statuses-requires
filled-statuses-requires c = omega (arith, head_blocks-lt (packet_head c.args.packet.now), c.packet_image.ensures.len, c.len.ensures.value)

pub returns-clause-bits : goal.returns-clause-bits
unfolding transmission_of
returns-clause-bits c =
    let parts : c.len.result / 70 ≡ packet_parts (head_blocks (packet_head c.args.packet.now)) = omega (arith, c.packet_image.ensures.len, c.len.ensures.value) in
    cc (same_status c.default.result station_status c.default.ensures)
