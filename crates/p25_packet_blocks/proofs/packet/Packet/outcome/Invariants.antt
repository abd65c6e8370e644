use Rattle.std.proofs.Common.{◌≡◌, ◌≤◌, length}
use Rattle.p25_packet_blocks.specs.Outcomes.{failing_slots_of}
use Rattle.p25_packet_blocks.proofs.packet.Packet.outcome.Given as goal

abbrev pub invariant-loop-j : goal.invariant-loop-j
invariant-loop-j l = record { so_far : l.failing ≡ failing_slots_of l.j l.slots; few : length l.failing ≤ l.j }
