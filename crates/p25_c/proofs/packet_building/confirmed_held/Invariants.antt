use Rattle.std.proofs.Common.{◌≡◌, Some, length}
use Rattle.p25_packet_blocks.specs.Whole.{AreGood}
use Rattle.p25_c.specs.Packets.{slots_held}
use Rattle.p25_c.proofs.packet_building.confirmed_held.Given as goal

-- so many blocks are held, and all are good
abbrev pub invariant-loop-j : goal.invariant-loop-j
invariant-loop-j l = record { held : slots_held l.j l.packet ≡ Some l.slots; len : length l.slots ≡ l.j; good : AreGood l.slots }
