use Rattle.std.proofs.Common.{◌≡◌, take, length}
use Rattle.p25_packet_blocks.proofs.flags.flags_in.Given as goal

abbrev pub invariant-loop-i : goal.invariant-loop-i
invariant-loop-i l = record { so_far : take l.i l.flags ≡ take l.i l.bits; long : length l.flags ≡ length l.bits }
