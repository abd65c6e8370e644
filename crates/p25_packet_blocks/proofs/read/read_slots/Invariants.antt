use Rattle.std.proofs.Common.{◌≡◌, length}
use Rattle.p25_packet_blocks.specs.{Fixes.{three_quarter_distance}, Reading.{slots_read}}
use Rattle.p25_packet_blocks.proofs.read.read_slots.Given as goal

abbrev pub invariant-loop-j : goal.invariant-loop-j
invariant-loop-j l = record { so_far : l.slots ≡ slots_read l.j l.bare; len : length l.slots ≡ l.j; counted : l.wrong ≡ three_quarter_distance l.j l.bare }
