use Rattle.std.proofs.Common.{◌≡◌, ◌*◌, take, length}
use Rattle.p25_packet_blocks.specs.{Fixes.{half_distance}, Reading.{octets_read}}
use Rattle.p25_packet_blocks.proofs.packet.Packet.read_plain.Given as goal

abbrev pub invariant-loop-j : goal.invariant-loop-j
invariant-loop-j l = record { so_far : take (12 * l.j) l.octets ≡ octets_read l.j l.bare; counted : l.wrong ≡ half_distance l.j l.bare; long : length l.octets ≡ 12 * l.blocks }
